-- Reads of texts of a folder, one after another.
use Rattle.std.proofs.Common.{◌≡◌, ◌≤◌, ℕ, suc, Bool, true, false, List, [], ◌∷◌, ◌++◌, append_assoc, append-nil, length, length-append, Option, Some, None, option_map, Result, Ok, Err, refl, sym, ap, subst, ◌∙◌, arith}
use Rattle.std.specs.List.{cons_option}
use Rattle.std.proofs.lemmas.List.Elements.{filter_map-append}
use Rattle.deny_text.specs.Path.{join_of}
use Rattle.tree_core.specs.Answer.{listed_entry}
use Rattle.tree_core.specs.Call as call
use Rattle.tree_core.specs.Call.{CallAnswer, Call}
use Rattle.tree_core.specs.declared.tree.Entry.{Entry}
use Rattle.tree_core.specs.texts.Heard.{IsTextRead, read_of, text_answered}
use Rattle.tree_core.specs.declared.texts.fault.ReadFault.{ReadFault}
use Rattle.spdx_terms.specs.declared.catalog.store.StoreText.{StoreText}
use Rattle.spdx_own_names.specs.declared.error.StoreFault.{StoreFault}
use Rattle.spdx_own_names.specs.declared.error.StoreError.{StoreError}
use Rattle.spdx_own_names.specs.declared.error.StoreError.TheVariants.{Fault, Memory}
use Rattle.spdx_own_names.specs.Folder.{TextFile, text_file, license_of, text_in, texts_of, reads_of, StoreHeard, with_text, fault_of, heard_with, reads_answered, AnswersStore, AreTextsRead}

abbrev told_had : List StoreText → Option StoreHeard
told_had had = Some (Ok had)

abbrev stored : TextFile → List ℕ → StoreText
stored text body = record { name = text.license; body = body }

-- ---- what is read of texts that were found

-- the first of them was found, and so were those behind it
record IsHad (text : TextFile) (heard : Option (Result (List ℕ) ReadFault)) (rest : Option StoreHeard) (had : List StoreText) : Type 0 where
  body : List ℕ
  is : heard ≡ Some (Ok body)
  more : List StoreText
  had_more : rest ≡ Some (Ok more)
  all : had ≡ stored text body ∷ more

had_behind : (text : TextFile) (body : List ℕ) (rest : Option StoreHeard) (had : List StoreText) → option_map (with_text (stored text body)) rest ≡ Some (Ok had) → IsHad text (Some (Ok body)) rest had
had_behind text body None had is = absurd (cc)
had_behind text body (Some (Ok more)) had is =
    let same : stored text body ∷ more ≡ had = cc in
    record { body = body; is = refl; more = more; had_more = refl; all = sym same }
had_behind text body (Some (Err fault)) had is = absurd (cc)

is_had : (text : TextFile) (heard : Option (Result (List ℕ) ReadFault)) (answers : List CallAnswer) (rest : Option StoreHeard) (had : List StoreText) → heard_with text heard answers rest ≡ Some (Ok had) → IsHad text heard rest had
is_had text None answers rest had is = absurd (cc)
is_had text (Some (Ok body)) answers rest had is = had_behind text body rest had is
is_had text (Some (Err fault)) [] rest had is = absurd (cc)
is_had text (Some (Err fault)) (answer ∷ answers) rest had is = absurd (cc)

-- a text that is found is so whatever the count is behind its read
body_any : (begun after other : ℕ) (answer : CallAnswer) (body : List ℕ) → text_answered begun after answer ≡ Some (Ok body) → text_answered begun other answer ≡ Some (Ok body)
body_any begun after other (call.bytes items) body is = is
body_any begun after other (call.entries items) body is = absurd (cc)
body_any begun after other (call.told answer) body is = absurd (cc)
body_any begun after other call.absent body is = absurd (cc)
body_any begun after other call.wrong_kind body is = absurd (cc)
body_any begun after other call.failed body is = absurd (cc)
body_any begun after other call.no_memory body is = absurd (cc)

module _ (begun after : ℕ) where
  had_any : (other : ℕ) (texts : List TextFile) (reads : List CallAnswer) (had : List StoreText) → reads_answered begun after texts reads ≡ Some (Ok had) → reads_answered begun other texts reads ≡ Some (Ok had)
  had_any other [] [] had is = is
  had_any other [] (answer ∷ answers) had is = absurd (cc)
  had_any other (text ∷ texts) [] had is = absurd (cc)
  had_any other (text ∷ texts) (answer ∷ answers) had is =
      let it = is_had text (text_answered begun after answer) answers (reads_answered begun after texts answers) had is in
      ap (λ heard. heard_with text heard answers (reads_answered begun other texts answers)) (body_any begun after other answer it.body it.is)
      ∙ ap (option_map (with_text (stored text it.body))) (had_any other texts answers it.more it.had_more)
      ∙ ap told_had (sym it.all)

  -- there is a read for each
  had_length : (texts : List TextFile) (reads : List CallAnswer) (had : List StoreText) → reads_answered begun after texts reads ≡ Some (Ok had) → length reads ≡ length texts
  had_length [] [] had is = refl
  had_length [] (answer ∷ answers) had is = absurd (cc)
  had_length (text ∷ texts) [] had is = absurd (cc)
  had_length (text ∷ texts) (answer ∷ answers) had is =
      let it = is_had text (text_answered begun after answer) answers (reads_answered begun after texts answers) had is in
      ap suc (had_length texts answers it.more it.had_more)

  -- ---- texts that were found, and more

  abbrev behind : List StoreText → StoreHeard → StoreHeard
  behind had (Ok more) = Ok (had ++ more)
  behind had (Err fault) = Err fault

  none_before : (heard : Option StoreHeard) (had : List StoreText) → [] ≡ had → heard ≡ option_map (behind had) heard
  none_before None had is = refl
  none_before (Some (Ok more)) had is = ap (λ front. told_had (front ++ more)) is
  none_before (Some (Err fault)) had is = refl

  one_before : (text : StoreText) (more had : List StoreText) (heard : Option StoreHeard) → had ≡ text ∷ more → option_map (with_text text) (option_map (behind more) heard) ≡ option_map (behind had) heard
  one_before text more had None is = refl
  one_before text more had (Some (Ok rest)) is = ap (λ front. told_had (front ++ rest)) (sym is)
  one_before text more had (Some (Err fault)) is = refl

  had_joined : (texts others : List TextFile) (reads more : List CallAnswer) (had : List StoreText) → reads_answered begun after texts reads ≡ Some (Ok had)
      → reads_answered begun after (texts ++ others) (reads ++ more) ≡ option_map (behind had) (reads_answered begun after others more)
  had_joined [] others [] more had is = let same : [] ≡ had = cc in none_before (reads_answered begun after others more) had same
  had_joined [] others (answer ∷ answers) more had is = absurd (cc)
  had_joined (text ∷ texts) others [] more had is = absurd (cc)
  had_joined (text ∷ texts) others (answer ∷ answers) more had is =
      let it = is_had text (text_answered begun after answer) answers (reads_answered begun after texts answers) had is in
      ap (λ heard. heard_with text heard (answers ++ more) (reads_answered begun after (texts ++ others) (answers ++ more))) it.is
      ∙ ap (option_map (with_text (stored text it.body))) (had_joined texts others answers more it.more it.had_more)
      ∙ one_before (stored text it.body) it.more had (reads_answered begun after others more) it.all

  -- ---- a text that was not found

  fault_behind : (text : StoreText) (rest other : Option StoreHeard) (fault : StoreFault) → (rest ≡ Some (Err fault) → other ≡ Some (Err fault)) → option_map (with_text text) rest ≡ Some (Err fault)
      → option_map (with_text text) other ≡ Some (Err fault)
  fault_behind text None other fault stays is = absurd (cc)
  fault_behind text (Some (Ok more)) other fault stays is = absurd (cc)
  fault_behind text (Some (Err found)) other fault stays is = ap (option_map (with_text text)) (stays is)

  fault_with : (text : TextFile) (heard : Option (Result (List ℕ) ReadFault)) (answers : List CallAnswer) (rest other : Option StoreHeard) (fault : StoreFault) → (rest ≡ Some (Err fault) → other ≡ Some (Err fault))
      → heard_with text heard answers rest ≡ Some (Err fault) → heard_with text heard answers other ≡ Some (Err fault)
  fault_with text None answers rest other fault stays is = absurd (cc)
  fault_with text (Some (Ok body)) answers rest other fault stays is = fault_behind (stored text body) rest other fault stays is
  fault_with text (Some (Err found)) [] rest other fault stays is = is
  fault_with text (Some (Err found)) (answer ∷ answers) rest other fault stays is = absurd (cc)

  -- no text behind it is read
  fault_stays : (texts others : List TextFile) (reads : List CallAnswer) (fault : StoreFault) → reads_answered begun after texts reads ≡ Some (Err fault) → reads_answered begun after (texts ++ others) reads ≡ Some (Err fault)
  fault_stays [] others [] fault is = absurd (cc)
  fault_stays [] others (answer ∷ answers) fault is = absurd (cc)
  fault_stays (text ∷ texts) others [] fault is = absurd (cc)
  fault_stays (text ∷ texts) others (answer ∷ answers) fault is =
      fault_with text (text_answered begun after answer) answers (reads_answered begun after texts answers) (reads_answered begun after (texts ++ others) answers) fault (fault_stays texts others answers fault) is

-- ---- the calls

module _ (dir : List ℕ) where
  reads_of-append : (texts others : List TextFile) (reads more : List CallAnswer) → length reads ≡ length texts → reads_of dir (texts ++ others) (reads ++ more) ≡ reads_of dir texts reads ++ reads_of dir others more
  reads_of-append [] others [] more same = refl
  reads_of-append [] others (answer ∷ answers) more same = absurd (omega arith)
  reads_of-append (text ∷ texts) others [] more same = absurd (omega arith)
  reads_of-append (text ∷ texts) others (answer ∷ answers) more same =
      ap (λ calls. read_of (join_of dir text.file) answer ∷ calls) (reads_of-append texts others answers more (omega arith))

  pub no_reads : (texts : List TextFile) → reads_of dir texts [] ≡ []
  no_reads [] = refl
  no_reads (text ∷ texts) = refl

  reads_of-more : (texts others : List TextFile) (reads : List CallAnswer) → length reads ≤ length texts → reads_of dir (texts ++ others) reads ≡ reads_of dir texts reads
  reads_of-more [] others [] within = no_reads others
  reads_of-more [] others (answer ∷ answers) within = absurd (omega arith)
  reads_of-more (text ∷ texts) others [] within = refl
  reads_of-more (text ∷ texts) others (answer ∷ answers) within =
      ap (λ calls. read_of (join_of dir text.file) answer ∷ calls) (reads_of-more texts others answers (omega arith))

-- ---- one text

abbrev told_fault : StoreFault → Option StoreHeard
told_fault fault = Some (Err fault)

pub had_one : (text : TextFile) (heard : Result (List ℕ) ReadFault) (body name : List ℕ) → heard ≡ Ok body → name ≡ text.license → heard_with text (Some heard) [] (told_had []) ≡ told_had (record { name = name; body = body } ∷ [])
had_one text heard body name is same =
    ap (λ (one : Result (List ℕ) ReadFault). heard_with text (Some one) [] (told_had [])) is ∙ ap (λ (license : List ℕ). told_had (record { name = license; body = body } ∷ [])) (sym same)

pub lost_one : (text : TextFile) (heard : Result (List ℕ) ReadFault) (fault : ReadFault) (told : StoreFault) → heard ≡ Err fault → told ≡ fault_of text.file fault → heard_with text (Some heard) [] (told_had []) ≡ told_fault told
lost_one text heard fault told is same =
    ap (λ (one : Result (List ℕ) ReadFault). heard_with text (Some one) [] (told_had [])) is ∙ ap told_fault (sym same)

-- ---- over a tree

module _ {begun after : ℕ} {dir : List ℕ} where
  -- none was read, and memory was wanting
  pub none_lost : (old new : List Call) (texts : List TextFile) → new ≡ old → AreTextsRead begun after old new dir texts (Err Memory)
  none_lost old new texts same = record {
    reads = [];
    within = omega arith;
    made = same ∙ sym (append-nil old) ∙ ap (λ calls. old ++ calls) (sym (no_reads dir texts));
    answers = tt;
  }

  -- there was none to read
  pub none_read : (old new : List Call) → new ≡ old → AreTextsRead begun after old new dir [] (Ok [])
  none_read old new same = record { reads = []; within = omega arith; made = same ∙ sym (append-nil old); answers = refl }

  -- the read of one found no memory
  pub read_lost : (old new : List Call) (text : TextFile) (path : List ℕ) → path ≡ join_of dir text.file → new ≡ old ++ read_of path call.no_memory ∷ [] → AreTextsRead begun after old new dir (text ∷ []) (Err Memory)
  read_lost old new text path is made = record {
    reads = call.no_memory ∷ [];
    within = omega arith;
    made = made ∙ ap (λ one. old ++ read_of one call.no_memory ∷ []) is;
    answers = tt;
  }

  -- one was read
  pub one_read : (old new : List Call) (text : TextFile) (path : List ℕ) (heard : Result (List ℕ) ReadFault) (result : Result (List StoreText) StoreError) → path ≡ join_of dir text.file → IsTextRead begun after old new path heard
      → AnswersStore (heard_with text (Some heard) [] (Some (Ok []))) result → AreTextsRead begun after old new dir (text ∷ []) result
  one_read old new text path heard result is read answers = record {
    reads = read.answer ∷ [];
    within = omega arith;
    made = read.made ∙ ap (λ one. old ++ read_of one read.answer ∷ []) is;
    answers = subst (λ (told : Option (Result (List ℕ) ReadFault)). AnswersStore (heard_with text told [] (Some (Ok []))) result) (sym read.hears) answers;
  }

  -- texts were found, and then more
  pub texts_joined : {mid : ℕ} {old between new : List Call} (texts others : List TextFile) (had more : List StoreText) → AreTextsRead begun mid old between dir texts (Ok had) → AreTextsRead begun after between new dir others (Ok more)
      → AreTextsRead begun after old new dir (texts ++ others) (Ok (had ++ more))
  texts_joined {mid} {old} {between} {new} texts others had more first then =
      let same = had_length begun mid texts first.reads had first.answers in
      let now = had_any begun mid after texts first.reads had first.answers in record {
        reads = first.reads ++ then.reads;
        within = let within = then.within in omega (arith, same, length-append first.reads then.reads, length-append texts others);
        made = then.made ∙ ap (λ calls. calls ++ reads_of dir others then.reads) first.made ∙ append_assoc old (reads_of dir texts first.reads) (reads_of dir others then.reads)
            ∙ ap (λ calls. old ++ calls) (sym (reads_of-append dir texts others first.reads then.reads same));
        answers = had_joined begun after texts others first.reads then.reads had now ∙ ap (option_map (behind begun after had)) then.answers;
      }

  -- texts were found, and then one was not
  pub texts_refused : {mid : ℕ} {old between new : List Call} (texts others rest : List TextFile) (had : List StoreText) (error : StoreError) → AreTextsRead begun mid old between dir texts (Ok had)
      → AreTextsRead begun after between new dir others (Err error) → AreTextsRead begun after old new dir (texts ++ (others ++ rest)) (Err error)
  texts_refused {mid} {old} {between} {new} texts others rest had error first then =
      let same = had_length begun mid texts first.reads had first.answers in
      let now = had_any begun mid after texts first.reads had first.answers in record {
        reads = first.reads ++ then.reads;
        within = let within = then.within in omega (arith, same, length-append first.reads then.reads, length-append texts (others ++ rest), length-append others rest);
        made = then.made ∙ ap (λ calls. calls ++ reads_of dir others then.reads) first.made ∙ append_assoc old (reads_of dir texts first.reads) (reads_of dir others then.reads)
            ∙ ap (λ calls. old ++ (reads_of dir texts first.reads ++ calls)) (sym (reads_of-more dir others rest then.reads then.within))
            ∙ ap (λ calls. old ++ calls) (sym (reads_of-append dir texts (others ++ rest) first.reads then.reads same));
        answers = by error then.answers;
      }
    where
      by : (error : StoreError) → AnswersStore (reads_answered begun after others then.reads) (Err error) → AnswersStore (reads_answered begun after (texts ++ (others ++ rest)) (first.reads ++ then.reads)) (Err error)
      by Memory answers = tt
      by (Fault fault) answers =
          had_joined begun after texts (others ++ rest) first.reads then.reads had (had_any begun mid after texts first.reads had first.answers)
          ∙ ap (option_map (behind begun after had)) (fault_stays begun after others rest then.reads fault answers)

-- ---- entries

pub texts_of-append : (entries more : List (List ℕ × Bool)) → texts_of (entries ++ more) ≡ texts_of entries ++ texts_of more
texts_of-append entries more = filter_map-append text_in entries more

-- an entry that is no file, and one whose name tells no licence
pub no_file : (entry : Entry) → entry.is_file ≡ false → texts_of (listed_entry entry ∷ []) ≡ []
no_file entry is = ap (λ b. cons_option (text_in (entry.name, b)) []) is

pub no_text : (entry : Entry) → license_of entry.name ≡ None → texts_of (listed_entry entry ∷ []) ≡ []
no_text entry none = by entry.is_file
  where
    by : (b : Bool) → cons_option (text_in (entry.name, b)) [] ≡ []
    by true = ap (λ told. cons_option (option_map (text_file entry.name) told) []) none
    by false = refl

pub a_text : (entry : Entry) (license : List ℕ) → entry.is_file ≡ true → license_of entry.name ≡ Some license → texts_of (listed_entry entry ∷ []) ≡ text_file entry.name license ∷ []
a_text entry license is told =
    ap (λ b. cons_option (text_in (entry.name, b)) []) is ∙ ap (λ found. cons_option (option_map (text_file entry.name) found) []) told
