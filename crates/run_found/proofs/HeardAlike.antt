-- Two hearings of a request in which the same calls were answered alike find the same policy and hear the same metadata.
use Rattle.std.proofs.Common.{◌≡◌, ◌∙◌, ◌⊎◌, inl, inr, refl, sym, ap, subst, ℕ, true, false, List, [], ◌∷◌, ◌++◌, append_assoc, Option, Some, None, Result, Ok}
use Rattle.std.specs.Option.{option_and_then}
use Rattle.tree_core.specs.Call as call
use Rattle.tree_core.specs.Call.{CallKind, CallAnswer, Call}
use Rattle.tree_core.specs.Trace.{faults_after}
use Rattle.diag_core.specs.File.{File}
use Rattle.gather_core.specs.Calls.{calls_of_all}
use Rattle.policy_core.specs.Policy.{PolicyFound}
use Rattle.policy_load.specs.Heard.{LoadHeard}
use Rattle.policy_load.specs.Load.{load_of}
use Rattle.policy_load.specs.declared.loading.PolicyPaths.{PolicyPaths}
use Rattle.policy_core.specs.text.Text.{config_text_of}
use Rattle.run_found.specs.declared.error.Error.{Error}
use Rattle.run_found.specs.Finds.{HearsPolicy}
use Rattle.run_found.specs.Found.{calls_with, config_by, config_in, count_exceptions, count_looked, count_metadata, count_policy, count_sought, due_by_text, exceptions_due, exceptions_in, files_loaded, files_of_load, load_heard, looked_behind, metadata_heard, or_load_error, path_by, paths_found, paths_looked, paths_sought, policy_due, policy_found}
use Rattle.run_found.specs.Given.{RequestArguments}
use Rattle.run_found.specs.Hearing.{LooksResult, unended, IsReadWhereDue, RequestHearing, count_behind, is_heard, look_by, look_calls, looks_behind, looks_by, read_calls, text_by}
use Rattle.run_found.specs.Steps.{◌>>=◌, unless_refused}

-- ---- what is found, by what was read

abbrev paths_by : Result (Option (List ℕ)) Error → Result (Option (List ℕ)) Error → Result PolicyPaths Error
paths_by config exceptions = do
  policy ← config
  other ← exceptions
  Ok (record { policy = policy; exceptions = other })

abbrev policy_by : RequestArguments → Result PolicyPaths Error → LoadHeard → Result PolicyFound Error
policy_by request paths heard = do
  loaded ← paths >>= λ own. Ok (load_of request.lists [] own heard)
  or_load_error loaded.answer

abbrev files_by : RequestArguments → Result PolicyPaths Error → LoadHeard → List File
files_by request paths heard = files_of_load (paths >>= λ own. Ok (load_of request.lists [] own heard))

-- what is found and read is the same, and so are the file tables; and so much holds of the calls behind it
pub record FindsAlike (request : RequestArguments) (D : List Call → List Call → Type 0) (one other : RequestHearing) : Type 0 where
  pub policy : policy_found request one ≡ policy_found request other
  pub metadata : metadata_heard request one ≡ metadata_heard request other
  pub files : files_loaded request one ≡ files_loaded request other
  pub crates : D (calls_of_all one.crates) (calls_of_all other.crates)

-- ---- answers that are alike

-- of two lists of calls it holds that calls at the same place, of the same thing and path, are answered alike, but for want of memory
-- in the second
module _ (D : List Call → List Call → Type 0)
    (step : (asked : CallKind) (path : List ℕ) (one other : CallAnswer) (X Y : List Call)
    → D (record { asked = asked; path = path; answer = one } ∷ X) (record { asked = asked; path = path; answer = other } ∷ Y)
    → ((one ≡ other) ⊎ (other ≡ call.no_memory)) × D X Y) where
  pub record LooksAlike (paths : List (List ℕ)) (L M : List CallAnswer) (X Y : List Call) : Type 0 where
    pub came : looks_by paths L ≡ looks_by paths M
    pub calls : look_calls paths L ≡ look_calls paths M
    pub rest : D X Y

  apart_lost : (path : List ℕ) (rest : LooksResult) (answer : CallAnswer) → answer ≡ call.no_memory → (look_by answer path rest ≡ unended → ⊥) → ⊥
  apart_lost path rest answer is bound = bound (ap (λ own. look_by own path rest) is)

  -- looks at these paths that were ended in both
  abbrev AreAlike : List (List ℕ) → Type 0
  AreAlike paths = (L M : List CallAnswer) (X Y : List Call) → (looks_by paths L ≡ unended → ⊥) → (looks_by paths M ≡ unended → ⊥)
      → D (look_calls paths L ++ X) (look_calls paths M ++ Y) → LooksAlike paths L M X Y

  -- behind a look that was answered so in both
  behind_alike : (path : List ℕ) (paths : List (List ℕ)) (further : AreAlike paths) (answer : CallAnswer) (L M : List CallAnswer) (X Y : List Call) → (look_by answer path (looks_by paths L) ≡ unended → ⊥)
      → (look_by answer path (looks_by paths M) ≡ unended → ⊥) → D (looks_behind answer (look_calls paths L) ++ X) (looks_behind answer (look_calls paths M) ++ Y)
      → LooksAlike (path ∷ paths) (answer ∷ L) (answer ∷ M) X Y
  behind_alike path paths further (call.bytes items) L M X Y one other alike = absurd (one refl)
  behind_alike path paths further (call.entries items) L M X Y one other alike = absurd (one refl)
  behind_alike path paths further (call.told true) L M X Y one other alike = record { came = refl; calls = refl; rest = alike }
  behind_alike path paths further (call.told false) L M X Y one other alike =
      let rest = further L M X Y one other alike in
      record { came = rest.came; calls = ap (λ own. record { asked = call.exists; path = path; answer = call.told false } ∷ own) rest.calls; rest = rest.rest }
  behind_alike path paths further call.absent L M X Y one other alike = absurd (one refl)
  behind_alike path paths further call.wrong_kind L M X Y one other alike = absurd (one refl)
  behind_alike path paths further call.failed L M X Y one other alike = record { came = refl; calls = refl; rest = alike }
  behind_alike path paths further call.no_memory L M X Y one other alike = absurd (one refl)

  looks_alike : (paths : List (List ℕ)) → AreAlike paths
  looks_alike [] L M X Y one other alike = record { came = refl; calls = refl; rest = alike }
  looks_alike (path ∷ paths) [] M X Y one other alike = absurd (one refl)
  looks_alike (path ∷ paths) (a ∷ L) [] X Y one other alike = absurd (other refl)
  looks_alike (path ∷ paths) (a ∷ L) (b ∷ M) X Y one other alike =
      let next = step call.exists path a b (looks_behind a (look_calls paths L) ++ X) (looks_behind b (look_calls paths M) ++ Y) alike in
      same_answer (looks_alike paths) next.0 next.1
    where
      same_answer : AreAlike paths → (a ≡ b) ⊎ (b ≡ call.no_memory) → D (looks_behind a (look_calls paths L) ++ X) (looks_behind b (look_calls paths M) ++ Y) → LooksAlike (path ∷ paths) (a ∷ L) (b ∷ M) X Y
      same_answer further (inr lost) rest = absurd (apart_lost path (looks_by paths M) b lost other)
      same_answer further (inl same) rest =
          subst (λ own. LooksAlike (path ∷ paths) (a ∷ L) (own ∷ M) X Y) same
          (behind_alike path paths further a L M X Y one (λ e. other (subst (λ own. look_by own path (looks_by paths M) ≡ unended) same e))
          (subst (λ own. D (looks_behind a (look_calls paths L) ++ X) (looks_behind own (look_calls paths M) ++ Y)) (sym same) rest))

  -- a read that was made where it was due
  read_alike : (due : Option (List ℕ)) (one other : Option CallAnswer) (X Y : List Call) → IsReadWhereDue due one → IsReadWhereDue due other
      → D (read_calls due one ++ X) (read_calls due other ++ Y) → (one ≡ other) × D X Y
  read_alike None one other X Y first second alike = (first ∙ sym second, alike)
  read_alike (Some path) None other X Y first second alike = absurd (cc)
  read_alike (Some path) (Some a) None X Y first second alike = absurd (cc)
  read_alike (Some path) (Some a) (Some b) X Y first second alike =
      let next = step call.read path a b X Y alike in (same_answer next.0, next.1)
    where
      lost_apart : is_heard (Some call.no_memory) ≡ true → ⊥
      lost_apart e = absurd (cc)

      same_answer : (a ≡ b) ⊎ (b ≡ call.no_memory) → ◌≡◌ {A = Option CallAnswer} (Some a) (Some b)
      same_answer (inl same) = ap Some same
      same_answer (inr lost) = absurd (lost_apart (subst (λ own. is_heard (Some own) ≡ true) lost second))

  -- the metadata is due by what is found of the policy
  module _ (request : RequestArguments) (due_by : Result PolicyFound Error → Option (List ℕ)) (one other : RequestHearing) (begun : one.begun ≡ other.begun)
      (first : HearsPolicy request one) (second : HearsPolicy request other)
      (read : IsReadWhereDue (due_by (policy_found request one)) one.metadata) (read_other : IsReadWhereDue (due_by (policy_found request other)) other.metadata) where
    abbrev due_of : RequestHearing → Option (List ℕ)
    due_of hearing = due_by (policy_found request hearing)

    -- the calls behind the looks, from the right
    abbrev behind_looks : RequestHearing → List Call
    behind_looks hearing =
        read_calls (policy_due request hearing) hearing.policy ++ (read_calls (exceptions_due request hearing) hearing.exceptions
        ++ (read_calls (due_of hearing) hearing.metadata ++ calls_of_all hearing.crates))

    abbrev behind_sought : RequestHearing → List Call
    behind_sought hearing = look_calls (paths_looked request hearing) hearing.looks ++ behind_looks hearing

    -- all calls, from the right
    from_right : (hearing : RequestHearing) → calls_with request hearing (due_of hearing) ≡ look_calls (paths_sought request) hearing.sought ++ behind_sought hearing
    from_right hearing =
        let S = look_calls (paths_sought request) hearing.sought in
        let L = look_calls (paths_looked request hearing) hearing.looks in
        let P = read_calls (policy_due request hearing) hearing.policy in
        let E = read_calls (exceptions_due request hearing) hearing.exceptions in
        let M = read_calls (due_of hearing) hearing.metadata in
        let C = calls_of_all hearing.crates in
        append_assoc (S ++ L ++ P ++ E) M C ∙ append_assoc (S ++ L ++ P) E (M ++ C) ∙ append_assoc (S ++ L) P (E ++ (M ++ C)) ∙ append_assoc S L (P ++ (E ++ (M ++ C)))

    pub finds_alike : D (calls_with request one (due_of one)) (calls_with request other (due_of other)) → FindsAlike request D one other
    finds_alike alike =
        let whole = subst (λ own. D own (calls_with request other (due_of other))) (from_right one) alike in
        let right = subst (D (look_calls (paths_sought request) one.sought ++ behind_sought one)) (from_right other) whole in
        let sought = looks_alike (paths_sought request) one.sought other.sought _ _ first.looks.sought second.looks.sought right in
        let sought_count : count_sought request one ≡ count_sought request other =
        ap (λ n. faults_after n (look_calls (paths_sought request) one.sought)) begun ∙ ap (faults_after other.begun) sought.calls in
        let config_of = config_by request.context.cwd request.context.config_path in
        let config : config_in request one ≡ config_in request other =
        ap (λ n. config_of (path_by n (count_sought request one) (looks_by (paths_sought request) one.sought))) begun
        ∙ ap (λ n. config_of (path_by other.begun n (looks_by (paths_sought request) one.sought))) sought_count
        ∙ ap (λ came. config_of (path_by other.begun (count_sought request other) came)) sought.came in
        let looked_same : paths_looked request one ≡ paths_looked request other = ap (looked_behind request.context.manifest_path) config in
        let looks = looks_alike (paths_looked request other) one.looks other.looks _ _ (subst (λ paths. looks_by paths one.looks ≡ unended → ⊥) looked_same first.looks.looks) second.looks.looks
        (subst (λ paths. D (look_calls paths one.looks ++ behind_looks one) (look_calls (paths_looked request other) other.looks ++ behind_looks other)) looked_same sought.rest) in
        let count : count_looked request one ≡ count_looked request other =
        ap (λ n. faults_after n (look_calls (paths_looked request one) one.looks)) sought_count
        ∙ ap (λ paths. faults_after (count_sought request other) (look_calls paths one.looks)) looked_same
        ∙ ap (faults_after (count_sought request other)) looks.calls in
        let exceptions_found : exceptions_in request one ≡ exceptions_in request other =
        ap (λ n. path_by n (count_looked request one) (looks_by (paths_looked request one) one.looks)) begun
        ∙ ap (λ n. path_by other.begun n (looks_by (paths_looked request one) one.looks)) count
        ∙ ap (λ paths. path_by other.begun (count_looked request other) (looks_by paths one.looks)) looked_same
        ∙ ap (path_by other.begun (count_looked request other)) looks.came in
        let paths : paths_found request one ≡ paths_found request other =
        ap (λ own. paths_by own (exceptions_in request one)) config ∙ ap (paths_by (config_in request other)) exceptions_found in
        let policy_same : policy_due request one ≡ policy_due request other =
        ap (λ found. option_and_then (λ (own : PolicyPaths). own.policy) (unless_refused found)) paths in
        let policy = read_alike (policy_due request other) one.policy other.policy _ _ (subst (λ due. IsReadWhereDue due one.policy) policy_same first.policy) second.policy
        (subst (λ due. D (read_calls due one.policy ++ (read_calls (exceptions_due request one) one.exceptions ++ (read_calls (due_of one) one.metadata ++ calls_of_all one.crates))) (behind_looks other))
        policy_same looks.rest) in
        let policy_count : count_policy request one ≡ count_policy request other =
        ap (λ n. count_behind n one.policy) count ∙ ap (count_behind (count_looked request other)) policy.0 in
        let text : (load_heard request one).policy ≡ (load_heard request other).policy =
        ap (λ n. text_by n (count_policy request one) one.policy) begun ∙ ap (λ n. text_by other.begun n one.policy) policy_count ∙ ap (text_by other.begun (count_policy request other)) policy.0 in
        let exceptions_same : exceptions_due request one ≡ exceptions_due request other =
        ap (λ found. option_and_then (λ own. due_by_text request.lists own (config_text_of (load_heard request one).policy)) (unless_refused found)) paths
        ∙ ap (λ own_text. option_and_then (λ own. due_by_text request.lists own (config_text_of own_text)) (unless_refused (paths_found request other))) text in
        let exceptions = read_alike (exceptions_due request other) one.exceptions other.exceptions _ _ (subst (λ due. IsReadWhereDue due one.exceptions) exceptions_same first.exceptions) second.exceptions
        (subst (λ due. D (read_calls due one.exceptions ++ (read_calls (due_of one) one.metadata ++ calls_of_all one.crates))
        (read_calls (exceptions_due request other) other.exceptions ++ (read_calls (due_of other) other.metadata ++ calls_of_all other.crates))) exceptions_same policy.1) in
        let exceptions_count : count_exceptions request one ≡ count_exceptions request other =
        ap (λ n. count_behind n one.exceptions) policy_count ∙ ap (count_behind (count_policy request other)) exceptions.0 in
        let own_text : (load_heard request one).exceptions ≡ (load_heard request other).exceptions =
        ap (λ n. text_by n (count_exceptions request one) one.exceptions) policy_count ∙ ap (λ n. text_by (count_policy request other) n one.exceptions) exceptions_count
        ∙ ap (text_by (count_policy request other) (count_exceptions request other)) exceptions.0 in
        let heard : load_heard request one ≡ load_heard request other =
        ap (λ own. let it : LoadHeard = record { policy = own; exceptions = (load_heard request one).exceptions } in it) text
        ∙ ap (λ own. let it : LoadHeard = record { policy = (load_heard request other).policy; exceptions = own } in it) own_text in
        let found : policy_found request one ≡ policy_found request other =
        ap (λ own. policy_by request own (load_heard request one)) paths ∙ ap (policy_by request (paths_found request other)) heard in
        let metadata_same : due_of one ≡ due_of other = ap due_by found in
        let metadata = read_alike (due_of other) one.metadata other.metadata _ _ (subst (λ due. IsReadWhereDue due one.metadata) metadata_same read) read_other
        (subst (λ due. D (read_calls due one.metadata ++ calls_of_all one.crates) (read_calls (due_of other) other.metadata ++ calls_of_all other.crates)) metadata_same exceptions.1) in
        let metadata_count : count_metadata request one ≡ count_metadata request other =
        ap (λ n. count_behind n one.metadata) exceptions_count ∙ ap (count_behind (count_exceptions request other)) metadata.0 in
        let told : metadata_heard request one ≡ metadata_heard request other =
        ap (λ n. text_by n (count_metadata request one) one.metadata) begun ∙ ap (λ n. text_by other.begun n one.metadata) metadata_count
        ∙ ap (text_by other.begun (count_metadata request other)) metadata.0 in
        record {
          policy = found;
          metadata = told;
          files = ap (λ own. files_by request own (load_heard request one)) paths ∙ ap (files_by request (paths_found request other)) heard;
          crates = metadata.1;
        }
