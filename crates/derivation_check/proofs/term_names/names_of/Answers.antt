use Rattle.std.proofs.Common.{◌∙◌, refl}
use Rattle.derivation_check.proofs.NamesLaws.{found-told}
use Rattle.derivation_check.proofs.term_names.names_of.Goals as goal

pub returns : goal.returns
returns c =
    let x = c.in_ok-found.found in
    found-told c.args.homes.now c.args.t.now x (record { eigens = c.in_ok-eigens.eigens; places = c.in_ok-places.places; has_anywhere = x.has_anywhere; has_unknown = x.has_unknown; has_variable = x.has_variable })
    c.in_ok-found.ensures (c.in_ok-eigens.ensures ∙ c.as_slice.ensures.keys) (c.in_ok-places.ensures ∙ c.as_slice-2.ensures.keys) refl refl refl
