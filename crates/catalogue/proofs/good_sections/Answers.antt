-- `catalogue::good_sections` meets its contract. Assumes nothing.
use native.Mathlib.Omega.{arith}
use Rattle.octets.proofs.Tests.{denied, granted}
use Rattle.catalogue.proofs.Judging.{refused-many, refused-file, refused-image, judged}
use Rattle.catalogue.proofs.good_sections.Goals as goal

pub returns-then-at-gt-MOST : goal.returns-then-at-gt-MOST
returns-then-at-gt-MOST c = refused-many c.requires.1 (omega arith)

pub returns-then-not-good_files : goal.returns-then-not-good_files
returns-then-not-good_files c = refused-file c.requires.1 (denied c.good_files.ensures c.if-not-good_files.true-raw)

pub returns-then-not-rising_images : goal.returns-then-not-rising_images
returns-then-not-rising_images c = refused-image c.requires.1 (denied c.rising_images.ensures c.if-not-rising_images.true-raw)

pub tally-counts-requires : goal.tally-counts-requires
tally-counts-requires c = (omega arith, omega arith, granted c.good_files.ensures c.if-not-good_files.false-raw)

pub returns : goal.returns
returns c =
    judged c.requires.1 c.requires.0 (omega arith) (granted c.good_files.ensures c.if-not-good_files.false-raw)
    (granted c.rising_images.ensures c.if-not-rising_images.false-raw) _ c.tally-counts.ensures c.true_channels.ensures
