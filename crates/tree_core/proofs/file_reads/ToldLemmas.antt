-- What the answers to reads say, where content is reported: what the content has there, but for a failure.
use Rattle.std.proofs.Common.{◌≡◌, ◌∙◌, ℕ, Bool, List, [], ◌∷◌, Option, None, Some, refl, sym, ap, subst}
use Rattle.std.specs.FinMap as finite
use Rattle.std.specs.Prelude.{unwrap_or}
use Rattle.std.proofs.lemmas.List.Elements.{All-nil, All-cons, All-head, All-tail}
use Rattle.deny_text.specs.Path.{components_of, join_of}
use Rattle.deny_text.proofs.PathLemmas.{joins_by_parts}
use Rattle.tree_core.specs.Call as call
use Rattle.tree_core.specs.Call.{CallAnswer}
use Rattle.tree_core.specs.Content as tree
use Rattle.tree_core.specs.Content.{Content, TreeNode, Place, entries_in, node_at, resolve}
use Rattle.tree_core.specs.Trace.{IsUnlessLost, Says, content_answer, fault_behind, list_answer, read_answer}
use Rattle.tree_core.specs.declared.reads.ReadAnswer.{ReadAnswer}
use Rattle.tree_core.specs.declared.reads.ReadKind.{ReadKind}
use Rattle.tree_core.specs.declared.reads.ReadKind.TheVariants.{Manifest, Listing, LicenseFile}
use Rattle.tree_core.proofs.JoinLemmas.{resolve-join}
use Rattle.tree_core.specs.file_reads.Answered.{file_answered, folder_answered}
use Rattle.tree_core.specs.file_reads.Heard.{ReadResult, failed, absent, wrong_kind, not_utf8, text, entries, read_answer_of, counts_in, file_heard, listing_by, listing_heard, or_there, read_place, there_heard}
use Rattle.tree_core.specs.file_reads.Read.{IsRecorded, AnsweredRead, asked_for, call_for, calls_in, counts_carried, given_path, kind_answered, read_heard, HearsContent, ReadsTellContent}
use Rattle.tree_core.proofs.file_reads.ReadLemmas.{heard_recorded}

-- ---- one answer

-- what is read is what is there, where the read did not fail
abbrev IsHeardOf : ReadResult → ReadResult → Type 0
IsHeardOf there (failed before after) = Unit {0}
IsHeardOf there absent = there ≡ absent
IsHeardOf there wrong_kind = there ≡ wrong_kind
IsHeardOf there not_utf8 = there ≡ not_utf8
IsHeardOf there (text bytes) = there ≡ text bytes
IsHeardOf there (entries listed) = there ≡ entries listed

itself : (heard : ReadResult) → IsHeardOf heard heard
itself (failed before after) = tt
itself absent = refl
itself wrong_kind = refl
itself not_utf8 = refl
itself (text bytes) = refl
itself (entries listed) = refl

same_heard : (there heard : ReadResult) → there ≡ heard → IsHeardOf there heard
same_heard there heard is = subst (λ (one : ReadResult). IsHeardOf there one) is (itself there)

heard_nothing : file_heard None ≡ absent
unfolding file_heard
heard_nothing = refl

heard_folder : file_heard (Some tree.folder) ≡ wrong_kind
unfolding file_heard
heard_folder = refl

-- what is there, by the answer to a read
bytes_there : (node : Option TreeNode) (items : List ℕ) → call.bytes items ≡ read_answer node → node ≡ Some (tree.file items)
bytes_there None items says = cc
bytes_there (Some tree.folder) items says = cc
bytes_there (Some (tree.file bytes)) items says = let same : items ≡ bytes = cc in ap (λ (one : List ℕ). Some (tree.file one)) (sym same)

nothing_there : (node : Option TreeNode) → call.absent ≡ read_answer node → node ≡ None
nothing_there None says = refl
nothing_there (Some tree.folder) says = cc
nothing_there (Some (tree.file bytes)) says = cc

folder_there : (node : Option TreeNode) → call.wrong_kind ≡ read_answer node → node ≡ Some tree.folder
folder_there None says = cc
folder_there (Some tree.folder) says = refl
folder_there (Some (tree.file bytes)) says = cc

file_told : (there : Option TreeNode) (before after : ℕ) (answer : CallAnswer) (heard : ReadResult) → file_answered before after answer ≡ Some heard → IsUnlessLost (read_answer there) answer
    → IsHeardOf (file_heard there) heard
file_told there before after (call.bytes items) heard is says =
    let same : file_heard (Some (tree.file items)) ≡ heard = cc in same_heard (file_heard there) heard (ap file_heard (bytes_there there items says) ∙ same)
file_told there before after (call.entries items) heard is says = cc
file_told there before after (call.told answer) heard is says = cc
file_told there before after call.absent heard is says =
    let same : absent ≡ heard = cc in same_heard (file_heard there) heard (ap file_heard (nothing_there there says) ∙ heard_nothing ∙ same)
file_told there before after call.wrong_kind heard is says =
    let same : wrong_kind ≡ heard = cc in same_heard (file_heard there) heard (ap file_heard (folder_there there says) ∙ heard_folder ∙ same)
file_told there before after call.failed heard is says = let same : failed before after ≡ heard = cc in subst (λ (one : ReadResult). IsHeardOf (file_heard there) one) same tt
file_told there before after call.no_memory heard is says = cc

listing_is : (content : Content) (place : Place) → listing_heard content place ≡ listing_by content place (finite.get content place)
unfolding listing_heard
listing_is content place = refl

-- what is there, by the answer to a listing
module _ (content : Content) (place : Place) where
  listed_there : (node : Option TreeNode) (items : List (List ℕ × Bool)) → call.entries items ≡ list_answer (entries_in content place) node → listing_by content place node ≡ entries items
  listed_there None items says = cc
  listed_there (Some tree.folder) items says = let same : items ≡ entries_in content place = cc in ap entries (sym same)
  listed_there (Some (tree.file bytes)) items says = cc

  nothing_listed : (node : Option TreeNode) → call.absent ≡ list_answer (entries_in content place) node → listing_by content place node ≡ absent
  nothing_listed None says = refl
  nothing_listed (Some tree.folder) says = cc
  nothing_listed (Some (tree.file bytes)) says = cc

  file_listed : (node : Option TreeNode) → call.wrong_kind ≡ list_answer (entries_in content place) node → listing_by content place node ≡ wrong_kind
  file_listed None says = cc
  file_listed (Some tree.folder) says = cc
  file_listed (Some (tree.file bytes)) says = refl

  listing_told : (before after : ℕ) (answer : CallAnswer) (heard : ReadResult) → folder_answered before after answer ≡ Some heard
      → IsUnlessLost (list_answer (entries_in content place) (finite.get content place)) answer → IsHeardOf (listing_heard content place) heard
  listing_told before after (call.bytes items) heard is says = cc
  listing_told before after (call.entries items) heard is says =
      let same : entries items ≡ heard = cc in same_heard (listing_heard content place) heard (listing_is content place ∙ listed_there (finite.get content place) items says ∙ same)
  listing_told before after (call.told answer) heard is says = cc
  listing_told before after call.absent heard is says =
      let same : absent ≡ heard = cc in same_heard (listing_heard content place) heard (listing_is content place ∙ nothing_listed (finite.get content place) says ∙ same)
  listing_told before after call.wrong_kind heard is says =
      let same : wrong_kind ≡ heard = cc in same_heard (listing_heard content place) heard (listing_is content place ∙ file_listed (finite.get content place) says ∙ same)
  listing_told before after call.failed heard is says = let same : failed before after ≡ heard = cc in subst (λ (one : ReadResult). IsHeardOf (listing_heard content place) one) same tt
  listing_told before after call.no_memory heard is says = cc

-- ---- one read

kind_told : (kind : ReadKind) (content : Content) (base path : List ℕ) (before after : ℕ) (answer : CallAnswer) (heard : ReadResult) → kind_answered kind before after answer ≡ Some heard
    → IsUnlessLost (content_answer content (asked_for kind) (given_path base kind path)) answer
    → IsHeardOf (there_heard kind content (read_place kind (resolve base) (components_of path))) heard
kind_told Manifest content base path before after answer heard is says = file_told (node_at content path) before after answer heard is says
kind_told Listing content base path before after answer heard is says = listing_told content (resolve path) before after answer heard is says
kind_told LicenseFile content base path before after answer heard is says =
    subst (λ (place : Place). IsHeardOf (file_heard (finite.get content place)) heard) (resolve-join joins_by_parts base path)
    (file_told (node_at content (join_of base path)) before after answer heard is says)

-- what is read of what is there, but for a failure
or_failed : (there heard : ReadResult) → IsHeardOf there heard → or_there (counts_in (read_answer_of heard)) there ≡ heard
or_failed there (failed before after) is = refl
or_failed there absent is = is
or_failed there wrong_kind is = is
or_failed there not_utf8 is = is
or_failed there (text bytes) is = is
or_failed there (entries listed) is = is

-- where the content says what a read was answered, the read says what the content has there, but for its failure
read_told : (content : Content) (base : List ℕ) (before : ℕ) (read : AnsweredRead) → IsRecorded before read → Says content (call_for base read.recorded read.answer)
    → read_heard read
    ≡ or_there (counts_in read.recorded.answer) (there_heard read.recorded.kind content (read_place read.recorded.kind (resolve base) (components_of read.recorded.path)))
read_told content base before read is says =
    let kind = read.recorded.kind in
    let path = read.recorded.path in
    let there : ReadResult = there_heard kind content (read_place kind (resolve base) (components_of path)) in
    let after : ℕ = fault_behind before read.answer in
    ap (λ (told : ReadAnswer). unwrap_or (kind_answered kind (counts_carried told).0 (counts_carried told).1 read.answer) absent) is.tells
    ∙ heard_recorded kind path before after read.answer is.heard is.hears
    ∙ sym (or_failed there is.heard (kind_told kind content base path before after read.answer is.heard is.hears says))
    ∙ ap (λ (told : ReadAnswer). or_there (counts_in told) there) (sym is.tells)

pub reads_told : ReadsTellContent
reads_told content folder before [] are says = All-nil (HearsContent content folder)
reads_told content folder before (read ∷ reads) are says =
    let one = call_for folder read.recorded read.answer in
    All-cons (HearsContent content folder) read reads
    (read_told content folder before read are.0 (All-head (Says content) one (calls_in folder reads) says))
    (reads_told content folder (fault_behind before read.answer) reads are.1 (All-tail (Says content) one (calls_in folder reads) says))
