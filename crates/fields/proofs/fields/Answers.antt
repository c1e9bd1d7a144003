-- `fields::fields` meets its contract: each record that was found stands whole. Assumes nothing.
use mathlib.Core.Path.{refl, ap, ◌∙◌}
use Rattle.records.specs.Table.{fixed_types, length_of}
use Rattle.records.specs.Reader.{image_if, navigation_if, time_if, segment_if, image_of, navigation_of, time_of, segment_of, fields_of}
use Rattle.records.proofs.Passing.{found-whole}
use Rattle.fields.proofs.fields.Goals as goal

pub image_fields-requires : goal.image_fields-requires
unfolding length_of
image_fields-requires c = search (found-whole fixed_types 1 9 refl)

pub navigation_fields-requires : goal.navigation_fields-requires
unfolding length_of
navigation_fields-requires c = search (found-whole fixed_types 2 51 refl)

pub time_fields-requires : goal.time_fields-requires
unfolding length_of
time_fields-requires c = search (found-whole fixed_types 5 10 refl)

pub segment_fields-requires : goal.segment_fields-requires
unfolding length_of
segment_fields-requires c = search (found-whole fixed_types 128 7 refl)

pub returns : goal.returns
unfolding fields_of image_of navigation_of time_of segment_of
returns c =
    let xs = c.args.header.now in
    λ i.
    record {
      primary = c.primary_fields.ensures i;
      image = (c.image_fields.ensures ∙ ap (image_if xs) c.find_type.ensures) i;
      navigation = (c.navigation_fields.ensures ∙ ap (navigation_if xs) c.find_type-2.ensures) i;
      time = (c.time_fields.ensures ∙ ap (time_if xs) c.find_type-3.ensures) i;
      segment = (c.segment_fields.ensures ∙ ap (segment_if xs) c.find_type-4.ensures) i;
    }
