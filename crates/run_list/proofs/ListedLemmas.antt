-- The licences that were read, as what is listed of crates and as their reads.
use Rattle.std.proofs.Common.{◌≡◌, ◌∙◌, refl, ap, ap₂, List, [], ◌∷◌, map}
use Rattle.std.specs.List.{AllZip}
use Rattle.gather_core.specs.Calls.{ReadsOfCrate}
use Rattle.gather_core.specs.declared.summary.KrateLicense.{KrateLicense}
use Rattle.gather_license.specs.expression.Scanned.{Scanner}
use Rattle.gather_core.specs.findings.License.{expression_of}
use Rattle.gather_core.specs.declared.findings.license.LicenseInfo.{LicenseInfo}
use Rattle.gather_core.specs.declared.findings.license.LicenseInfo.TheVariants.{SpdxExpression, Unlicensed}
use Rattle.policy_core.specs.declared.valid.policy.ValidConfig.{ValidConfig}
use Rattle.run_found.specs.Reads.{read_gathered}
use Rattle.run_list_text.specs.declared.listed.ListedCrate.{ListedCrate}
use Rattle.run_list_text.specs.Listed.{crate_name, licenses_of, listed_of}
use Rattle.run_command.specs.Settled.{IsLicenseHeard}
use Rattle.run_list.specs.Listed.{IsReadOf, all_listed, licenses_in, listed_by}

-- the licences of a crate are those of its expression
told_licenses : (info : LicenseInfo) → licenses_of info ≡ licenses_in (expression_of info)
told_licenses Unlicensed = refl
told_licenses (SpdxExpression expression nfo) = refl

module _ (scanner : Scanner) (policy : ValidConfig) where
  listed_one : (one : ReadsOfCrate) (license : KrateLicense) → IsLicenseHeard scanner policy one license → listed_of license ≡ listed_by scanner policy one
  listed_one one license heard =
      ap₂ (λ name licenses. let it : ListedCrate = record { name = name; licenses = licenses } in it)
      (ap crate_name heard.krate)
      (told_licenses license.lic_info ∙ ap licenses_in heard.expression)

  -- each crate is listed as its reads say
  pub all_are_listed : (crates : List ReadsOfCrate) (licenses : List KrateLicense) → AllZip (IsLicenseHeard scanner policy) crates licenses → map listed_of licenses ≡ all_listed scanner policy crates
  all_are_listed [] [] heard = refl
  all_are_listed [] (license ∷ licenses) heard = absurd heard
  all_are_listed (one ∷ crates) [] heard = absurd heard
  all_are_listed (one ∷ crates) (license ∷ licenses) heard =
      ap₂ (λ (first : ListedCrate) (rest : List ListedCrate). first ∷ rest) (listed_one one license heard.0) (all_are_listed crates licenses heard.1)

  -- its reads are answered
  pub reads_answered : (crates : List ReadsOfCrate) (licenses : List KrateLicense) → AllZip (IsLicenseHeard scanner policy) crates licenses → AllZip IsReadOf crates (map read_gathered licenses)
  reads_answered [] [] heard = tt
  reads_answered [] (license ∷ licenses) heard = absurd heard
  reads_answered (one ∷ crates) [] heard = absurd heard
  reads_answered (one ∷ crates) (license ∷ licenses) heard =
      (record { id = ap (λ krate. krate.id) heard.0.krate; reads = heard.0.reads }, reads_answered crates licenses heard.1)
