-- A head and a package are read as they are written.
use Rattle.std.proofs.Common.{◌≡◌, ◌∙◌, ap, subst, ℕ, ◌<◌, true, List, [], ◌∷◌, ◌++◌, length, length-append, Option, Some, codes, decimal, arith}
use Rattle.check_bill.specs.declared.bill.Bill.{Bill}
use Rattle.check_bill.specs.declared.bill.BillPackage.{BillPackage}
use Rattle.check_bill.specs.declared.forms.TextForm.TheVariants.{Word, Moment, Line}
use Rattle.check_bill.specs.Bills.{IsBill, IsBillPackage, IsLine, is_moment, is_word}
use Rattle.check_bill.specs.Lines.{head_before, package_before}
use Rattle.check_bill.specs.Reading.{◌>>=◌, Read, HeadTexts, behind_number, behind_text, bill_with, field_at, head_at, licensed_at, named_at, package_at}
use Rattle.check_bill.proofs.Fields.{field_again, field_takes, moment_visible, visible_utf8, word_visible}
use Rattle.check_bill.proofs.Lines.{package_rest, to_concluded, to_created, to_declared, to_last, to_name, to_namespace, to_number, to_package, to_version}
use Rattle.check_bill.proofs.StepLemmas.{behind_text_again, behind_text_is, bind_some, some_is}

-- ---- heads

abbrev head_with : List ℕ → List ℕ → List ℕ → HeadTexts
head_with name namespace created = record { name = name; namespace = namespace; created = created }

abbrev head_pair : HeadTexts → List ℕ → HeadTexts × List ℕ
head_pair head rest = (head, rest)

abbrev last_of_head : List ℕ → List ℕ → List ℕ → List ℕ → Read HeadTexts
last_of_head name namespace created rest = Some (head_with name namespace created, rest)

abbrev behind_created : List ℕ → List ℕ → List ℕ × List ℕ → Read HeadTexts
behind_created name namespace created = behind_text (codes "\n") created.1 >>= λ rest. last_of_head name namespace created.0 rest

abbrev behind_namespace : List ℕ → List ℕ × List ℕ → Read HeadTexts
behind_namespace name namespace = field_at Moment to_created namespace.1 >>= λ created. behind_created name namespace.0 created

abbrev behind_name : List ℕ × List ℕ → Read HeadTexts
behind_name name = field_at Word to_namespace name.1 >>= λ namespace. behind_namespace name.0 namespace

pub head_again : (bill : Bill) (rest : List ℕ) → IsBill bill → head_at (head_before bill rest) ≡ Some (head_with bill.name bill.namespace bill.created, rest)
unfolding head_at
head_again bill rest is =
    ap (λ (read : Read (List ℕ)). read >>= behind_name)
    (field_again Word to_name bill.name (codes "DocumentNamespace: " ++ (bill.namespace ++ (to_created ++ (bill.created ++ (10 ∷ rest))))) is.name (visible_utf8 bill.name (word_visible bill.name is.name)))
    ∙ ap (λ (read : Read (List ℕ)). read >>= λ namespace. behind_namespace bill.name namespace)
    (field_again Word to_namespace bill.namespace (codes "Creator: Tool: cargo-deny-0.20.2\nCreated: " ++ (bill.created ++ (10 ∷ rest))) is.namespace (visible_utf8 bill.namespace (word_visible bill.namespace is.namespace)))
    ∙ ap (λ (read : Read (List ℕ)). read >>= λ created. behind_created bill.name bill.namespace created)
    (field_again Moment to_created bill.created rest is.created (visible_utf8 bill.created (moment_visible bill.created is.created)))
    ∙ ap (λ (read : Option (List ℕ)). read >>= λ left. last_of_head bill.name bill.namespace bill.created left) (behind_text_again (codes "\n") rest)

-- a head by its fields
pub head_read : (bytes name in_name namespace in_namespace created in_created rest : List ℕ) → field_at Word to_name bytes ≡ Some (name, in_name) → field_at Word to_namespace in_name ≡ Some (namespace, in_namespace)
    → field_at Moment to_created in_namespace ≡ Some (created, in_created) → behind_text (codes "\n") in_created ≡ Some rest → head_at bytes ≡ Some (head_with name namespace created, rest)
unfolding head_at
head_read bytes name in_name namespace in_namespace created in_created rest first second third last =
    ap (λ (read : Read (List ℕ)). read >>= behind_name) first
    ∙ ap (λ (read : Read (List ℕ)). read >>= λ found. behind_namespace name found) second
    ∙ ap (λ (read : Read (List ℕ)). read >>= λ found. behind_created name namespace found) third
    ∙ ap (λ (read : Option (List ℕ)). read >>= λ left. last_of_head name namespace created left) last

-- a head and what is behind it
pub record TakesHead (bytes : List ℕ) (head : HeadTexts) (rest : List ℕ) : Type 0 where
  pub parts : bytes ≡ head_before (bill_with head []) rest
  pub name : is_word head.name ≡ true
  pub namespace : is_word head.namespace ≡ true
  pub created : is_moment head.created ≡ true

pub head_takes : (bytes : List ℕ) (head : HeadTexts) (rest : List ℕ) → head_at bytes ≡ Some (head, rest) → TakesHead bytes head rest
unfolding head_at
head_takes bytes head rest e =
    let n = bind_some (field_at Word to_name bytes) behind_name (head, rest) e in
    let s = bind_some (field_at Word to_namespace n.0.1) (λ namespace. behind_namespace n.0.0 namespace) (head, rest) n.2 in
    let c = bind_some (field_at Moment to_created s.0.1) (λ created. behind_created n.0.0 s.0.0 created) (head, rest) s.2 in
    let l = bind_some (behind_text (codes "\n") c.0.1) (λ left. last_of_head n.0.0 s.0.0 c.0.0 left) (head, rest) c.2 in
    let name = field_takes Word to_name bytes n.0.0 n.0.1 n.1 in
    let namespace = field_takes Word to_namespace n.0.1 s.0.0 s.0.1 s.1 in
    let created = field_takes Moment to_created s.0.1 c.0.0 c.0.1 c.1 in
    let feed : c.0.1 ≡ 10 ∷ l.0 = behind_text_is (codes "\n") c.0.1 l.0 l.1 in
    subst (λ (q : HeadTexts × List ℕ). TakesHead bytes q.0 q.1) (some_is (head_pair (head_with n.0.0 s.0.0 c.0.0) l.0) (head_pair head rest) l.2)
    (record {
      parts =
          name.parts
          ∙ ap (λ (r : List ℕ). to_name ++ (n.0.0 ++ r)) (namespace.parts
          ∙ ap (λ (r : List ℕ). to_namespace ++ (s.0.0 ++ r)) (created.parts
          ∙ ap (λ (r : List ℕ). to_created ++ (c.0.0 ++ r)) feed));
      name = name.is;
      namespace = namespace.is;
      created = created.is;
    })

-- ---- names and versions

abbrev Texts : Type 0
Texts = List ℕ × List ℕ

abbrev texts_pair : Texts → List ℕ → Texts × List ℕ
texts_pair texts rest = (texts, rest)

abbrev behind_version : List ℕ → List ℕ × List ℕ → Read Texts
behind_version name version = Some ((name, version.0), version.1)

abbrev behind_digits : List ℕ → List ℕ → Read Texts
behind_digits name rest = field_at Line to_version rest >>= λ version. behind_version name version

abbrev behind_mark : ℕ → List ℕ → List ℕ → Read Texts
behind_mark number name mark = behind_number number mark >>= λ rest. behind_digits name rest

abbrev behind_package : ℕ → List ℕ × List ℕ → Read Texts
behind_package number name = behind_text to_number name.1 >>= λ mark. behind_mark number name.0 mark

abbrev named_text : ℕ → List ℕ → List ℕ → List ℕ → List ℕ
named_text number name version rest = to_package ++ (name ++ (to_number ++ (decimal number ++ (to_version ++ (version ++ rest)))))

named_again : (number : ℕ) (name version rest : List ℕ) → IsLine name → IsLine version → named_at number (named_text number name version (10 ∷ rest)) ≡ Some ((name, version), 10 ∷ rest)
unfolding named_at behind_number
named_again number name version rest is_name is_version =
    let digits : List ℕ = decimal number ++ (to_version ++ (version ++ (10 ∷ rest))) in
    ap (λ (read : Read (List ℕ)). read >>= λ found. behind_package number found) (field_again Line to_package name (codes "SPDXID: SPDXRef-" ++ digits) is_name.line is_name.utf8)
    ∙ ap (λ (read : Option (List ℕ)). read >>= λ mark. behind_mark number name mark) (behind_text_again to_number digits)
    ∙ ap (λ (read : Option (List ℕ)). read >>= λ left. behind_digits name left) (behind_text_again (decimal number) (to_version ++ (version ++ (10 ∷ rest))))
    ∙ ap (λ (read : Read (List ℕ)). read >>= λ found. behind_version name found) (field_again Line to_version version rest is_version.line is_version.utf8)

-- the same by its fields
pub named_read : (number : ℕ) (bytes name in_name mark digits version rest : List ℕ) → field_at Line to_package bytes ≡ Some (name, in_name) → behind_text to_number in_name ≡ Some mark → behind_number number mark ≡ Some digits
    → field_at Line to_version digits ≡ Some (version, rest) → named_at number bytes ≡ Some ((name, version), rest)
unfolding named_at
named_read number bytes name in_name mark digits version rest first second third last =
    ap (λ (read : Read (List ℕ)). read >>= λ found. behind_package number found) first
    ∙ ap (λ (read : Option (List ℕ)). read >>= λ left. behind_mark number name left) second
    ∙ ap (λ (read : Option (List ℕ)). read >>= λ left. behind_digits name left) third
    ∙ ap (λ (read : Read (List ℕ)). read >>= λ found. behind_version name found) last

record TakesNamed (number : ℕ) (bytes : List ℕ) (texts : Texts) (rest : List ℕ) : Type 0 where
  parts : bytes ≡ named_text number texts.0 texts.1 rest
  name : IsLine texts.0
  version : IsLine texts.1

named_takes : (number : ℕ) (bytes : List ℕ) (texts : Texts) (rest : List ℕ) → named_at number bytes ≡ Some (texts, rest) → TakesNamed number bytes texts rest
unfolding named_at behind_number
named_takes number bytes texts rest e =
    let n = bind_some (field_at Line to_package bytes) (λ found. behind_package number found) (texts, rest) e in
    let m = bind_some (behind_text to_number n.0.1) (λ mark. behind_mark number n.0.0 mark) (texts, rest) n.2 in
    let d = bind_some (behind_text (decimal number) m.0) (λ left. behind_digits n.0.0 left) (texts, rest) m.2 in
    let v = bind_some (field_at Line to_version d.0) (λ found. behind_version n.0.0 found) (texts, rest) d.2 in
    let name = field_takes Line to_package bytes n.0.0 n.0.1 n.1 in
    let version = field_takes Line to_version d.0 v.0.0 v.0.1 v.1 in
    subst (λ (q : Texts × List ℕ). TakesNamed number bytes q.0 q.1) (some_is (texts_pair (n.0.0, v.0.0) v.0.1) (texts_pair texts rest) v.2)
    (record {
      parts =
          name.parts
          ∙ ap (λ (r : List ℕ). to_package ++ (n.0.0 ++ r)) (behind_text_is to_number n.0.1 m.0 m.1
          ∙ ap (λ (r : List ℕ). to_number ++ r) (behind_text_is (decimal number) m.0 d.0 d.1
          ∙ ap (λ (r : List ℕ). decimal number ++ r) version.parts));
      name = record { utf8 = name.utf8; line = name.is };
      version = record { utf8 = version.utf8; line = version.is };
    })

-- ---- licences

abbrev last_of_licensed : List ℕ → List ℕ → List ℕ → Read Texts
last_of_licensed concluded declared last = Some ((concluded, declared), last)

abbrev behind_last_digits : List ℕ → List ℕ → List ℕ → Read Texts
behind_last_digits concluded declared rest = behind_text (codes "\n") rest >>= λ last. last_of_licensed concluded declared last

abbrev behind_last : ℕ → List ℕ → List ℕ → List ℕ → Read Texts
behind_last number concluded declared mark = behind_number number mark >>= λ rest. behind_last_digits concluded declared rest

abbrev behind_declared : ℕ → List ℕ → List ℕ × List ℕ → Read Texts
behind_declared number concluded declared = behind_text to_last declared.1 >>= λ mark. behind_last number concluded declared.0 mark

abbrev behind_concluded : ℕ → List ℕ × List ℕ → Read Texts
behind_concluded number concluded = field_at Line to_declared concluded.1 >>= λ declared. behind_declared number concluded.0 declared

abbrev licensed_text : ℕ → List ℕ → List ℕ → List ℕ → List ℕ
licensed_text number concluded declared rest = to_concluded ++ (concluded ++ (to_declared ++ (declared ++ (to_last ++ (decimal number ++ (10 ∷ rest))))))

licensed_again : (number : ℕ) (concluded declared rest : List ℕ) → IsLine concluded → IsLine declared → licensed_at number (licensed_text number concluded declared rest) ≡ Some ((concluded, declared), rest)
unfolding licensed_at behind_number
licensed_again number concluded declared rest is_concluded is_declared =
    let digits : List ℕ = decimal number ++ (10 ∷ rest) in
    ap (λ (read : Read (List ℕ)). read >>= λ found. behind_concluded number found)
    (field_again Line to_concluded concluded (codes "PackageLicenseDeclared: " ++ (declared ++ (to_last ++ digits))) is_concluded.line is_concluded.utf8)
    ∙ ap (λ (read : Read (List ℕ)). read >>= λ found. behind_declared number concluded found)
    (field_again Line to_declared declared (codes "PackageCopyrightText: NOASSERTION\nRelationship: SPDXRef-DOCUMENT DESCRIBES SPDXRef-" ++ digits) is_declared.line is_declared.utf8)
    ∙ ap (λ (read : Option (List ℕ)). read >>= λ mark. behind_last number concluded declared mark) (behind_text_again to_last digits)
    ∙ ap (λ (read : Option (List ℕ)). read >>= λ left. behind_last_digits concluded declared left) (behind_text_again (decimal number) (10 ∷ rest))
    ∙ ap (λ (read : Option (List ℕ)). read >>= λ last. last_of_licensed concluded declared last) (behind_text_again (codes "\n") rest)

-- the same by its fields
pub licensed_read : (number : ℕ) (bytes concluded in_concluded declared in_declared mark digits rest : List ℕ) → field_at Line to_concluded bytes ≡ Some (concluded, in_concluded)
    → field_at Line to_declared in_concluded ≡ Some (declared, in_declared) → behind_text to_last in_declared ≡ Some mark → behind_number number mark ≡ Some digits → behind_text (codes "\n") digits ≡ Some rest
    → licensed_at number bytes ≡ Some ((concluded, declared), rest)
unfolding licensed_at
licensed_read number bytes concluded in_concluded declared in_declared mark digits rest first second third fourth last =
    ap (λ (read : Read (List ℕ)). read >>= λ found. behind_concluded number found) first
    ∙ ap (λ (read : Read (List ℕ)). read >>= λ found. behind_declared number concluded found) second
    ∙ ap (λ (read : Option (List ℕ)). read >>= λ left. behind_last number concluded declared left) third
    ∙ ap (λ (read : Option (List ℕ)). read >>= λ left. behind_last_digits concluded declared left) fourth
    ∙ ap (λ (read : Option (List ℕ)). read >>= λ left. last_of_licensed concluded declared left) last

record TakesLicensed (number : ℕ) (bytes : List ℕ) (texts : Texts) (rest : List ℕ) : Type 0 where
  parts : bytes ≡ licensed_text number texts.0 texts.1 rest
  concluded : IsLine texts.0
  declared : IsLine texts.1

licensed_takes : (number : ℕ) (bytes : List ℕ) (texts : Texts) (rest : List ℕ) → licensed_at number bytes ≡ Some (texts, rest) → TakesLicensed number bytes texts rest
unfolding licensed_at behind_number
licensed_takes number bytes texts rest e =
    let c = bind_some (field_at Line to_concluded bytes) (λ found. behind_concluded number found) (texts, rest) e in
    let d = bind_some (field_at Line to_declared c.0.1) (λ found. behind_declared number c.0.0 found) (texts, rest) c.2 in
    let m = bind_some (behind_text to_last d.0.1) (λ mark. behind_last number c.0.0 d.0.0 mark) (texts, rest) d.2 in
    let n = bind_some (behind_text (decimal number) m.0) (λ left. behind_last_digits c.0.0 d.0.0 left) (texts, rest) m.2 in
    let l = bind_some (behind_text (codes "\n") n.0) (λ last. last_of_licensed c.0.0 d.0.0 last) (texts, rest) n.2 in
    let concluded = field_takes Line to_concluded bytes c.0.0 c.0.1 c.1 in
    let declared = field_takes Line to_declared c.0.1 d.0.0 d.0.1 d.1 in
    let feed : n.0 ≡ 10 ∷ l.0 = behind_text_is (codes "\n") n.0 l.0 l.1 in
    subst (λ (q : Texts × List ℕ). TakesLicensed number bytes q.0 q.1) (some_is (texts_pair (c.0.0, d.0.0) l.0) (texts_pair texts rest) l.2)
    (record {
      parts =
          concluded.parts
          ∙ ap (λ (r : List ℕ). to_concluded ++ (c.0.0 ++ r)) (declared.parts
          ∙ ap (λ (r : List ℕ). to_declared ++ (d.0.0 ++ r)) (behind_text_is to_last d.0.1 m.0 m.1
          ∙ ap (λ (r : List ℕ). to_last ++ r) (behind_text_is (decimal number) m.0 n.0 n.1
          ∙ ap (λ (r : List ℕ). decimal number ++ r) feed)));
      concluded = record { utf8 = concluded.utf8; line = concluded.is };
      declared = record { utf8 = declared.utf8; line = declared.is };
    })

-- ---- packages

abbrev package_with : Texts → Texts → BillPackage
package_with named licensed = record { name = named.0; version = named.1; concluded = licensed.0; declared = licensed.1 }

abbrev package_pair : BillPackage → List ℕ → BillPackage × List ℕ
package_pair krate rest = (krate, rest)

abbrev behind_licensed : Texts → Texts × List ℕ → Read BillPackage
behind_licensed named licensed = Some (package_with named licensed.0, licensed.1)

abbrev behind_named : ℕ → Texts × List ℕ → Read BillPackage
behind_named number named = licensed_at number named.1 >>= λ licensed. behind_licensed named.0 licensed

pub package_again : (number : ℕ) (krate : BillPackage) (rest : List ℕ) → IsBillPackage krate → package_at number (package_before number krate rest) ≡ Some (krate, rest)
unfolding package_at
package_again number krate rest is =
    let licensed : List ℕ = codes "PackageDownloadLocation: NOASSERTION\nFilesAnalyzed: false\nPackageLicenseConcluded: "
    ++ (krate.concluded ++ (to_declared ++ (krate.declared ++ (to_last ++ (decimal number ++ (10 ∷ rest)))))) in
    ap (λ (read : Read Texts). read >>= λ named. behind_named number named) (named_again number krate.name krate.version licensed is.name is.version)
    ∙ ap (λ (read : Read Texts). read >>= λ found. behind_licensed (krate.name, krate.version) found) (licensed_again number krate.concluded krate.declared rest is.concluded is.declared)

-- a package and what is behind it
pub record TakesPackage (number : ℕ) (bytes : List ℕ) (krate : BillPackage) (rest : List ℕ) : Type 0 where
  pub parts : bytes ≡ package_before number krate rest
  pub is : IsBillPackage krate

pub package_takes : (number : ℕ) (bytes : List ℕ) (krate : BillPackage) (rest : List ℕ) → package_at number bytes ≡ Some (krate, rest) → TakesPackage number bytes krate rest
unfolding package_at
package_takes number bytes krate rest e =
    let n = bind_some (named_at number bytes) (λ named. behind_named number named) (krate, rest) e in
    let l = bind_some (licensed_at number n.0.1) (λ found. behind_licensed n.0.0 found) (krate, rest) n.2 in
    let named = named_takes number bytes n.0.0 n.0.1 n.1 in
    let licensed = licensed_takes number n.0.1 l.0.0 l.0.1 l.1 in
    subst (λ (q : BillPackage × List ℕ). TakesPackage number bytes q.0 q.1) (some_is (package_pair (package_with n.0.0 l.0.0) l.0.1) (package_pair krate rest) l.2)
    (record {
      parts = named.parts ∙ ap (λ (r : List ℕ). named_text number n.0.0.0 n.0.0.1 r) licensed.parts;
      is = record { name = named.name; version = named.version; concluded = licensed.concluded; declared = licensed.declared };
    })

-- a package without its first byte
abbrev body : ℕ → BillPackage → List ℕ
body number krate =
    codes "PackageName: " ++ (krate.name ++ (to_number ++ (decimal number ++ (to_version ++ (krate.version ++ (to_concluded
    ++ (krate.concluded ++ (to_declared ++ (krate.declared ++ (to_last ++ (decimal number ++ (10 ∷ []))))))))))))

pub package_longer : (number : ℕ) (krate : BillPackage) (rest : List ℕ) → length rest < length (package_before number krate rest)
package_longer number krate rest =
    let lengths : length (10 ∷ (body number krate ++ rest)) ≡ length (package_before number krate rest) = ap (λ (r : List ℕ). length r) (package_rest number krate rest) in
    let more = length-append (body number krate) rest in
    omega arith

-- a package takes bytes, so a step behind it has less of them
pub package_shortens : (number : ℕ) (bytes : List ℕ) (krate : BillPackage) (rest : List ℕ) → package_at number bytes ≡ Some (krate, rest) → length rest < length bytes
package_shortens number bytes krate rest e =
    let t = package_takes number bytes krate rest e in
    let lengths : length bytes ≡ length (package_before number krate rest) = ap (λ (r : List ℕ). length r) t.parts in
    let more = package_longer number krate rest in
    omega arith
