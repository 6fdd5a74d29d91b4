use Rattle.std.proofs.Common.{◌++◌, [], ◌∷◌, length, map, codes, flat_map, ◌∙◌, ap}
use Rattle.std.specs.List.{list_all}
use Rattle.calculus.specs.FirstWrong.{line_bytes}
use Rattle.derivation_text.specs.Listed.{are_listed, has_home_among, may_have_home_among}
use Rattle.derivation_text.specs.Writing.{eigen_line_at, label_lines_in, spare_line_at, step_line_at, term_lines_in}
use Rattle.derivation_text.proofs.WritingLaws.{body-joined, body-lines}
use Rattle.derivation_text.proofs.writer.write_body.Goals as goal

pub write_eigens-requires : goal.write_eigens-requires
write_eigens-requires c = record { among = ap (list_all (has_home_among (length c.args.d.now.labels))) c.eigens.ensures.view ∙ c.eigens.ensures.among; written = c.requires.written }

pub write_spares-requires : goal.write_spares-requires
write_spares-requires c = record { among = ap (list_all (may_have_home_among (length c.args.d.now.labels))) c.spares.ensures.view ∙ c.spares.ensures.among; written = c.requires.written }

pub write_steps-requires : goal.write_steps-requires
write_steps-requires c = record { listed = ap (list_all (are_listed (length c.args.d.now.labels) (length c.args.d.now.terms))) c.steps.ensures.view ∙ c.steps.ensures.listed; written = c.requires.written }

pub returns : goal.returns
returns c =
    let d = c.args.d.now in
    let v = c.args.version in
    let S = c.args.problem.now.symbols in
    let es = c.in_ok-write_eigens.ensures ∙ ap (λ l. c.write_label_lines.new.out.items ++ flat_map line_bytes (map (eigen_line_at v d.labels) l)) c.eigens.ensures.view in
    let ss = c.in_ok-write_spares.ensures ∙ ap (λ l. c.write_eigens.new.out.items ++ flat_map line_bytes (map (spare_line_at v d.labels) l)) c.spares.ensures.view in
    let xs = c.in_ok-write_steps.ensures ∙ ap (λ l. c.write_term_lines.new.out.items ++ flat_map line_bytes (map (step_line_at v S d.labels d.terms) l)) c.steps.ensures.view in
    body-joined c.args.out.now.items c.write_label_lines.new.out.items c.write_eigens.new.out.items c.write_spares.new.out.items c.write_term_lines.new.out.items c.write_steps.new.out.items c.write_bytes.new.out.items _ _ _ _ _
    c.in_ok-write_label_lines.ensures es ss c.in_ok-write_term_lines.ensures xs c.in_ok-write_bytes.ensures.ok
    ∙ ap (λ l. c.args.out.now.items ++ l) (body-lines (label_lines_in v d.labels) (map (eigen_line_at v d.labels) d.eigens) (map (spare_line_at v d.labels) d.spares) (term_lines_in v S d.terms) (map (step_line_at v S d.labels d.terms) d.steps) (codes "end" ∷ []))
