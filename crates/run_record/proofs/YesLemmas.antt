-- What a yes of verifying says, by the licences that were settled and the verdict file that was read.
use Rattle.std.proofs.Common.{◌≡◌, ◌∙◌, refl, ap, ap₂, subst, ℕ, Bool, true, false, cond, List, [], ◌∷◌, ◌++◌, map, Option, Some, Result, Ok, Err}
use Rattle.std.specs.List.{AllZip}
use Rattle.std.specs.Str.{is_utf8}
use Rattle.std.specs.Str.Lossy.{utf8_valid_len}
use Rattle.tree_core.specs.Call as call
use Rattle.tree_core.specs.Call.{CallAnswer}
use Rattle.tree_core.specs.Trace.{fault_behind, faults_after}
use Rattle.tree_core.specs.texts.Heard.{heard_of, read_of, text_answered}
use Rattle.tree_core.specs.declared.texts.fault.ReadFault.{ReadFault}
use Rattle.tree_core.specs.declared.texts.fault.ReadFault.TheVariants.{NotUtf8}
use Rattle.spdx_core.specs.Reading.{ExpressionView}
use Rattle.graph_core.specs.Krate.{CrateRecord, ids_in}
use Rattle.policy_core.specs.valid.Policy.{Policy}
use Rattle.policy_core.specs.valid.View.{policy_of}
use Rattle.policy_core.specs.declared.valid.policy.ValidConfig.{ValidConfig}
use Rattle.gather_core.specs.Calls.{ReadsOfCrate}
use Rattle.gather_core.specs.Gathered.{krate_of}
use Rattle.gather_core.specs.findings.License.{expression_of}
use Rattle.gather_core.specs.declared.summary.KrateLicense.{KrateLicense}
use Rattle.check_record.specs.Items.{ids_of}
use Rattle.check_record.specs.declared.items.RecordItem.{RecordItem}
use Rattle.check_verify.specs.Right.{IsRightOf}
use Rattle.check_verify.specs.declared.answer.VerifyAnswer.TheVariants.{Yes}
use Rattle.check_verify.proofs.RightLemmas.{IsRightAbout, yes_right}
use Rattle.run_found.specs.Found.{files_loaded}
use Rattle.run_found.specs.Hearing.{MadeOn, RequestHearing, TreeSeen}
use Rattle.run_found.specs.Licenses.{counted_heard, expression_in, priority_heard}
use Rattle.run_found.specs.Written.{SinkSeen}
use Rattle.run_command.specs.Found.{calls_of, scanner_of_given}
use Rattle.run_command.specs.Given.{CommandArguments}
use Rattle.run_command.specs.Settled.{IsLicenseHeard}
use Rattle.run_command.proofs.TurnLemmas.{licenses_heard, own_files}
use Rattle.run_record.specs.declared.verdicts.VerifiedCrates.{VerifiedCrates}
use Rattle.run_record.specs.Verified.{SettlesBy, Tells}
use Rattle.run_record.specs.Yes.{IsRecordedRight, TellsRight}

-- ---- the bytes of the file

text_is : (items text : List ℕ) (fault : ReadFault) (valid : Bool) → ◌≡◌ {A = Option (Result (List ℕ) ReadFault)} (Some (cond valid (Ok items) (Err fault))) (Some (Ok text)) → items ≡ text
text_is items text fault true e = cc
text_is items text fault false e = absurd cc

-- only bytes are read as a text
bytes_read : (count after : ℕ) (answer : CallAnswer) (text : List ℕ) → text_answered count after answer ≡ Some (Ok text) → answer ≡ call.bytes text
unfolding heard_of
bytes_read count after (call.bytes items) text e = ap call.bytes (text_is items text (NotUtf8 (utf8_valid_len items)) (is_utf8 items) e)
bytes_read count after (call.entries items) text e = absurd cc
bytes_read count after (call.told answer) text e = absurd cc
bytes_read count after call.absent text e = absurd cc
bytes_read count after call.wrong_kind text e = absurd cc
bytes_read count after call.failed text e = absurd cc
bytes_read count after call.no_memory text e = absurd cc

-- ---- crate after crate

right_moved : (policy : Policy) (krate other : CrateRecord) (counted those : List ℕ) (expression view : Option ExpressionView) (item : RecordItem)
    → krate ≡ other → counted ≡ those → expression ≡ view → IsRightOf policy krate counted expression item → IsRightOf policy other those view item
right_moved policy krate other counted those expression view item same count alike right =
    subst (λ (own : CrateRecord). IsRightOf policy own those view item) same
    (subst (λ (own : List ℕ). IsRightOf policy krate own view item) count (subst (λ (own : Option ExpressionView). IsRightOf policy krate counted own item) alike right))

module _ (given : CommandArguments) (policy : ValidConfig) where
  all_right : (crates : List ReadsOfCrate) (licenses : List KrateLicense) (items : List RecordItem) → AllZip (IsLicenseHeard (scanner_of_given given policy) policy) crates licenses
      → AllZip (IsRightAbout (policy_of policy)) licenses items → AllZip (IsRecordedRight given policy) crates items
  all_right [] [] [] heard each = tt
  all_right [] [] (item ∷ items) heard each = absurd each
  all_right [] (license ∷ licenses) items heard each = absurd heard
  all_right (one ∷ crates) [] items heard each = absurd heard
  all_right (one ∷ crates) (license ∷ licenses) [] heard each = absurd each
  all_right (one ∷ crates) (license ∷ licenses) (item ∷ items) heard each = (
    right_moved (policy_of policy) (krate_of license) one.krate license.exceptions (counted_heard policy one) (expression_of license.lic_info)
        (expression_in (priority_heard (scanner_of_given given policy) policy one)) item heard.0.krate heard.0.exceptions heard.0.expression each.0,
    all_right crates licenses items heard.1 each.1,
  )

  ids_right : (crates : List ReadsOfCrate) (items : List RecordItem) → AllZip (IsRecordedRight given policy) crates items → ids_of items ≡ ids_in (map (λ (one : ReadsOfCrate). one.krate) crates)
  ids_right [] [] each = refl
  ids_right [] (item ∷ items) each = absurd each
  ids_right (one ∷ crates) [] each = absurd each
  ids_right (one ∷ crates) (item ∷ items) each = ap₂ (λ (id : List ℕ) (ids : List (List ℕ)). id ∷ ids) each.0.id (ids_right crates items each.1)

-- ---- the file

-- the licences of the crates were settled, and then the file was read, and no other call was made; it is right about them
pub record ReadsRight (given : CommandArguments) (path : List ℕ) (tree : TreeSeen) : Type 0 where
  pub hearing : RequestHearing
  pub text : List ℕ
  pub begun : hearing.begun ≡ tree.count_before
  pub made : MadeOn tree (calls_of given hearing ++ read_of path (call.bytes text) ∷ [])
  pub tells : TellsRight given hearing text

pub yes_reads : (given : CommandArguments) (path : List ℕ) (tree : TreeSeen) (err : SinkSeen) (crates : VerifiedCrates) → SettlesBy given path tree err (Tells (Ok crates)) → crates.answer ≡ Yes
    → ReadsRight given path tree
yes_reads given path tree err crates settles agree =
    let hearing = settles.hearing in
    let policy = settles.policy in
    let licenses = settles.licenses in
    let scanner = scanner_of_given given policy in
    let files = files_loaded given.request hearing in
    let told = settles.is_so in
    let count = faults_after tree.count_before (calls_of given hearing) in
    let each = settles.settled.turns.each in
    let verdicts : AllZip (IsRecordedRight given policy) hearing.crates told.items =
    all_right given policy hearing.crates licenses told.items (licenses_heard scanner policy files hearing.crates licenses settles.last each)
    (yes_right (policy_of policy) licenses told.items crates.answer told.verified agree) in
    record {
      hearing = hearing;
      text = told.text;
      begun = settles.begun;
      made = subst (λ (answer : CallAnswer). MadeOn tree (calls_of given hearing ++ read_of path answer ∷ [])) (bytes_read count (fault_behind count settles.answer) settles.answer told.text told.hears) settles.made;
      tells = record {
        items = told.items;
        spells = told.spells;
        policy = policy;
        licenses = licenses;
        last = settles.last;
        settled = settles.settled;
        files = own_files scanner policy files hearing.crates licenses settles.last each;
        ids = ids_right given policy hearing.crates told.items verdicts ∙ ap ids_in settles.settled.crates;
        verdicts = verdicts;
      };
    }
