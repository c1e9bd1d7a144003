-- `catalogue::find` meets its contract. Assumes nothing.
use Rattle.octets.proofs.Tests.{denied, granted}
use Rattle.catalogue.proofs.Judging.{shape-refused, shape-granted, found-so, found-not}
use Rattle.catalogue.proofs.find.Goals as goal

pub returns-then-not-is_sections : goal.returns-then-not-is_sections
returns-then-not-is_sections c = found-not _ (shape-refused _ c.is_sections.ensures c.if-not-is_sections.true-raw)

pub find_places-at-requires : goal.find_places-at-requires
find_places-at-requires c = shape-granted _ c.is_sections.ensures c.if-not-is_sections.false-raw

pub good_sections-requires : goal.good_sections-requires
good_sections-requires c = (shape-granted _ c.is_sections.ensures c.if-not-is_sections.false-raw, c.find_places-at.ensures.1)

pub returns-then-not-good_sections : goal.returns-then-not-good_sections
returns-then-not-good_sections c = found-not _ (denied c.good_sections.ensures c.if-not-good_sections.true-raw)

pub returns : goal.returns
returns c = found-so _ (granted c.good_sections.ensures c.if-not-good_sections.false-raw) c.find_places-at.ensures.0
