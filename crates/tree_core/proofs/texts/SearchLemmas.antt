-- The looks at the paths of a folder and of those above it.
use Rattle.std.proofs.lemmas.List.{length-map}
use Rattle.std.proofs.Common.{◌≡◌, ◌<◌, ◌+◌, ℕ, zero, suc, true, false, List, [], ◌∷◌, ◌++◌, map, take, drop, get_or, append_assoc, arith, Option, Some, None, Result, Ok, Err, length, refl, ap, sym, subst, ◌∙◌, inl, inr}
use Rattle.tree_core.specs.Call.{CallAnswer, Call, told}
use Rattle.tree_core.specs.texts.Looked.{AreFirstLooks, IsHit, IsLast, FindsByLooks, LookedUntil, look_of, failed_look, absent_looks}
use Rattle.std.specs.Prelude.{is_some, IfErr}
use Rattle.std.specs.Result.{IsErrAnd}
use Rattle.std.proofs.Math.Numerals.{add-one}
use Rattle.std.specs.List.{flat_map}
use Rattle.deny_text.specs.Path.{parent_of, join_of, ancestors_from}
use Rattle.deny_text.proofs.PathLemmas.{ancestors_of-cons}
use Rattle.tree_core.specs.texts.Search.{names_sought, paths_in_folder}
use Rattle.tree_core.specs.declared.texts.search.SearchError.{SearchError}
use Rattle.tree_core.specs.declared.texts.search.SearchError.TheVariants.{Failed, Memory}
use Rattle.tree_core.specs.declared.texts.search.SoughtFile.{SoughtFile}
use Rattle.tree_core.specs.declared.texts.search.SoughtFile.TheVariants.{Policy, Exceptions}

-- above a folder there is one folder less
pub fewer_above : (here : List ℕ) → length (ancestors_from (Some here)) ≡ suc (length (ancestors_from (parent_of here)))
fewer_above here = ap length (ancestors_of-cons here)

-- ---- looks

pub misses-append : (paths more : List (List ℕ)) → absent_looks (paths ++ more) ≡ absent_looks paths ++ absent_looks more
misses-append [] more = refl
misses-append (path ∷ paths) more = ap (λ calls. look_of path (told false) ∷ calls) (misses-append paths more)

-- one path more was looked at, or several, and nothing is there
pub looked_on : (old mid new : List Call) (before : List (List ℕ)) (more : List (List ℕ)) → mid ≡ old ++ absent_looks before → new ≡ mid ++ absent_looks more → new ≡ old ++ absent_looks (before ++ more)
looked_on old mid new before more first then =
    then ∙ ap (λ calls. calls ++ absent_looks more) first ∙ append_assoc old (absent_looks before) (absent_looks more) ∙ ap (λ calls. old ++ calls) (sym (misses-append before more))

-- something is at the next of the paths
pub looked_hit : (old mid new : List Call) (paths before rest : List (List ℕ)) (found : List ℕ) → mid ≡ old ++ absent_looks before → new ≡ mid ++ look_of found (told true) ∷ [] → paths ≡ before ++ found ∷ rest → IsHit paths old new found
looked_hit old mid new paths before rest found first then parts = record {
  before = before;
  rest = rest;
  parts = parts;
  made = then ∙ ap (λ calls. calls ++ look_of found (told true) ∷ []) first;
}

pub split_here : {X : Type 0} (g : List ℕ → List ℕ) (f : X → List ℕ) (xs : List X) (i : ℕ) (d : X) → i < length xs → map g (map f xs) ≡ map g (map f (take i xs)) ++ g (f (get_or xs i d)) ∷ map g (map f (drop (suc i) xs))
split_here g f [] i d lt = absurd (omega arith)
split_here g f (x ∷ xs) zero d lt = refl
split_here g f (x ∷ xs) (suc i) d lt = ap (λ l. g (f x) ∷ l) (split_here g f xs i d (omega arith))

-- the hit of some paths is one of more paths, behind those at which nothing is there
hit_behind : (old mid new : List Call) (before paths rest : List (List ℕ)) (found : List ℕ) → mid ≡ old ++ absent_looks before → IsHit paths mid new found → IsHit (before ++ paths ++ rest) old new found
hit_behind old mid new before paths rest found first hit = record {
  before = before ++ hit.before;
  rest = hit.rest ++ rest;
  parts = ap (λ all. before ++ all ++ rest) hit.parts ∙ ap (λ all. all ++ rest) (sym (append_assoc before hit.before (found ∷ hit.rest))) ∙ append_assoc (before ++ hit.before) (found ∷ hit.rest) rest;
  made = hit.made ∙ ap (λ calls. calls ++ absent_looks hit.before ++ look_of found (told true) ∷ []) first
      ∙ ap (λ calls. calls ++ look_of found (told true) ∷ []) (append_assoc old (absent_looks before) (absent_looks hit.before) ∙ ap (λ calls. old ++ calls) (sym (misses-append before hit.before)));
}

pub some_behind : (old mid new : List Call) (all before paths rest : List (List ℕ)) (found : Option (List ℕ)) → is_some found ≡ true → mid ≡ old ++ absent_looks before → all ≡ before ++ (paths ++ rest) → FindsByLooks paths mid new found → FindsByLooks all old new found
some_behind old mid new all before paths rest None is first parts looked = absurd (cc)
some_behind old mid new all before paths rest (Some found) is first parts looked =
    subst (λ those. IsHit those old new found) (append_assoc before paths rest ∙ sym parts) (hit_behind old mid new before paths rest found first looked)

pub none_behind : (old mid new : List Call) (before paths : List (List ℕ)) (found : Option (List ℕ)) → is_some found ≡ false → mid ≡ old ++ absent_looks before → FindsByLooks paths mid new found → new ≡ old ++ absent_looks (before ++ paths)
none_behind old mid new before paths None is first looked = looked_on old mid new before paths first looked
none_behind old mid new before paths (Some found) is first looked = absurd (cc)

-- ---- searches that were given up

-- the look at the next of the paths was lost
pub looked_until : (old mid new : List Call) (paths before rest : List (List ℕ)) (path : List ℕ) (error : SearchError) → mid ≡ old ++ absent_looks before → new ≡ mid ++ look_of path (failed_look error) ∷ [] → paths ≡ before ++ path ∷ rest → LookedUntil paths old new error
looked_until old mid new paths before rest path (Failed low high) first then parts =
    record { before = before; last = path; rest = rest; parts = parts; made = then ∙ ap (λ calls. calls ++ look_of path (failed_look (Failed low high)) ∷ []) first }
looked_until old mid new paths before rest path Memory first then parts =
    inr (record { before = before; last = path; rest = rest; parts = parts; made = then ∙ ap (λ calls. calls ++ look_of path (failed_look Memory) ∷ []) first })

-- no memory was left for a further look
pub front_until : (old new : List Call) (paths before rest : List (List ℕ)) (error : SearchError) → error ≡ Memory → new ≡ old ++ absent_looks before → paths ≡ before ++ rest → LookedUntil paths old new error
front_until old new paths before rest error is made parts =
    subst (LookedUntil paths old new) (sym is) (inl (record { before = before; rest = rest; parts = parts; made = made }))

last_behind : (old mid new : List Call) (before paths rest : List (List ℕ)) (answer : CallAnswer) → mid ≡ old ++ absent_looks before → IsLast paths mid new answer → IsLast (before ++ paths ++ rest) old new answer
last_behind old mid new before paths rest answer first until = record {
  before = before ++ until.before;
  last = until.last;
  rest = until.rest ++ rest;
  parts = ap (λ all. before ++ all ++ rest) until.parts ∙ ap (λ all. all ++ rest) (sym (append_assoc before until.before (until.last ∷ until.rest))) ∙ append_assoc (before ++ until.before) (until.last ∷ until.rest) rest;
  made = until.made ∙ ap (λ calls. calls ++ absent_looks until.before ++ look_of until.last answer ∷ []) first
      ∙ ap (λ calls. calls ++ look_of until.last answer ∷ []) (append_assoc old (absent_looks before) (absent_looks until.before) ∙ ap (λ calls. old ++ calls) (sym (misses-append before until.before)));
}

front_behind : (old mid new : List Call) (before paths rest : List (List ℕ)) → mid ≡ old ++ absent_looks before → AreFirstLooks paths mid new → AreFirstLooks (before ++ paths ++ rest) old new
front_behind old mid new before paths rest first front = record {
  before = before ++ front.before;
  rest = front.rest ++ rest;
  parts = ap (λ all. before ++ all ++ rest) front.parts ∙ ap (λ all. all ++ rest) (sym (append_assoc before front.before front.rest)) ∙ append_assoc (before ++ front.before) front.rest rest;
  made = looked_on old mid new before front.before first front.made;
}

-- a search of some paths was given up, behind those at which nothing is there
behind_until : (old mid new : List Call) (before paths rest : List (List ℕ)) (error : SearchError) → mid ≡ old ++ absent_looks before → LookedUntil paths mid new error → LookedUntil (before ++ paths ++ rest) old new error
behind_until old mid new before paths rest (Failed low high) first until = last_behind old mid new before paths rest _ first until
behind_until old mid new before paths rest Memory first (inl front) = inl (front_behind old mid new before paths rest first front)
behind_until old mid new before paths rest Memory first (inr until) = inr (last_behind old mid new before paths rest _ first until)

pub until_behind : (old mid new : List Call) (all before paths rest : List (List ℕ)) (error : SearchError) → mid ≡ old ++ absent_looks before → all ≡ before ++ (paths ++ rest) → LookedUntil paths mid new error → LookedUntil all old new error
until_behind old mid new all before paths rest error first parts until =
    subst (λ those. LookedUntil those old new error) (append_assoc before paths rest ∙ sym parts) (behind_until old mid new before paths rest error first until)

-- the paths of a folder, and those of the folders above
pub paths_from : (names : List (List ℕ)) (here : List ℕ) → flat_map (paths_in_folder names) (ancestors_from (Some here)) ≡ paths_in_folder names here ++ flat_map (paths_in_folder names) (ancestors_from (parent_of here))
paths_from names here = ap (λ folders. flat_map (paths_in_folder names) folders) (ancestors_of-cons here)

-- each kind of file has three names
names_three : (sought : SoughtFile) → length (names_sought sought) ≡ 3
names_three Policy = refl
names_three Exceptions = refl

pub three_names : {X : Type 0} (f : X → List ℕ) (xs : List X) (sought : SoughtFile) (i : ℕ) → map f xs ≡ names_sought sought → i < 3 → i < length xs
three_names f xs sought i same lt = let long : length xs ≡ 3 = sym (length-map xs f) ∙ ap length same ∙ names_three sought in omega arith

-- ---- one name after the other

taken_next : {X : Type 0} (g : List ℕ → List ℕ) (f : X → List ℕ) (xs : List X) (i : ℕ) (d : X) → i < length xs → map g (map f (take i xs)) ++ g (f (get_or xs i d)) ∷ [] ≡ map g (map f (take (suc i) xs))
taken_next g f [] i d lt = absurd (omega arith)
taken_next g f (x ∷ xs) zero d lt = refl
taken_next g f (x ∷ xs) (suc i) d lt = ap (λ l. g (f x) ∷ l) (taken_next g f xs i d (omega arith))

-- nor does anything are at the path of the next name
pub missed_on : {X : Type 0} (old mid new : List Call) (folder : List ℕ) (f : X → List ℕ) (xs : List X) (i : ℕ) (d : X) (path : List ℕ) → i < length xs → path ≡ join_of folder (f (get_or xs i d)) → mid ≡ old ++ absent_looks (paths_in_folder (map f (take i xs)) folder) →
    new ≡ mid ++ look_of path (told false) ∷ [] → new ≡ old ++ absent_looks (paths_in_folder (map f (take (i + 1) xs)) folder)
missed_on old mid new folder f xs i d path lt is first then =
    looked_on old mid new (paths_in_folder (map f (take i xs)) folder) (path ∷ []) first then
    ∙ ap (λ last. old ++ absent_looks (paths_in_folder (map f (take i xs)) folder ++ last ∷ [])) is
    ∙ ap (λ paths. old ++ absent_looks paths) (taken_next (join_of folder) f xs i d lt)
    ∙ ap (λ n. old ++ absent_looks (paths_in_folder (map f (take n xs)) folder)) (sym (add-one i))

-- the paths looked at, and those that are left
pub split_names : {X : Type 0} (folder : List ℕ) (f : X → List ℕ) (xs : List X) (i : ℕ) → paths_in_folder (map f xs) folder ≡ paths_in_folder (map f (take i xs)) folder ++ paths_in_folder (map f (drop i xs)) folder
split_names folder f [] zero = refl
split_names folder f [] (suc i) = refl
split_names folder f (x ∷ xs) zero = refl
split_names folder f (x ∷ xs) (suc i) = ap (λ l. join_of folder (f x) ∷ l) (split_names folder f xs i)

-- an error that is handed on
pub handed : {R : Type 0} (result : Result R SearchError) (error : SearchError) (P : SearchError → Type 0) → IsErrAnd result (λ own. own ≡ error) → P error → IfErr result P
handed (Ok value) error P is holds = absurd is
handed (Err own) error P is holds = subst P (sym is) holds
