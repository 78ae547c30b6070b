use Rattle.policy_core.proofs.KeptLemmas.{validated_stands}
use Rattle.policy_core.proofs.PlaceLemmas.{validation_points}
use Rattle.policy_core.proofs.laws.validations_keep_places.Goals as goal

pub returns-clause-told : goal.returns-clause-told
returns-clause-told c lists laws files file config in_file = validation_points lists laws files file in_file.text config in_file.source in_file.is_text in_file.keeps

pub returns-clause-kept : goal.returns-clause-kept
returns-clause-kept c lists files file config valid in_file puts = validated_stands lists files file in_file.text config valid in_file.source in_file.is_text.fits in_file.keeps puts
