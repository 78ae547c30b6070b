use Rattle.std.proofs.Common.{◌≡◌, ◌≤◌, ◌-◌, take, IfSome}
use Rattle.deny_text.specs.Path.{IsSharedSlash}
use Rattle.deny_text.proofs.path.last_shared_slash.Given as goal

-- the texts are the same up to the place
abbrev pub invariant-shared : goal.invariant-shared
invariant-shared l = (l.place ≤ l.shorter) × (take l.place l.x ≡ take l.place l.y) × IfSome l.slash (IsSharedSlash l.x l.y)

abbrev pub decreases-shared : goal.decreases-shared
decreases-shared l = l.shorter - l.place
