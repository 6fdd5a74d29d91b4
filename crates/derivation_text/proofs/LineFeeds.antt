-- No line of a derivation has a line feed in it.
use Rattle.std.proofs.Common.{List, [], ◌∷◌, ◌++◌, map, ◌&&◌, IsTrue, refl, decimal, codes}
use Rattle.std.specs.List.{list_all}
use Rattle.std.proofs.lemmas.Bool.{and_parts}
use Rattle.calculus.specs.Syntax.{Symbol, Problem}
use Rattle.calculus.specs.Problems.{is_problem, symbol_fits}
use Rattle.calculus.specs.Derivations.{Home, anywhere, home_at, EigenName, SpareName, ModalArg, no_modal, to, by_new, TermArg, no_term, by_term, by_name, Step, apply_to, close, Derivation}
use Rattle.calculus.specs.DerivationText.{derivation_lines, eigen_line, head_lines, home_is_written, home_text, is_printable, label_is_written, modal_is_written, modal_text, spare_line, step_is_written, step_line, term_arg_is_written, term_arg_text}
use Rattle.calculus.specs.Text.{is_number, label_text, term_text}
use Rattle.logic_rules.proofs.ProblemFacts.{kept}
use Rattle.text_lines.proofs.LineFeeds.{AreNoFeeds, NoFeed, head-feed, join, label-feed, lines-join, lines-map, name_number-feed, small-feed, term-feed}
use Rattle.derivation_text.specs.Written.{eigen_is_written, spare_is_written}
use Rattle.derivation_text.proofs.Printable.{parts}

home-feed : (h : Home) → IsTrue (home_is_written h) → NoFeed (home_text h)
home-feed anywhere k = refl
home-feed (home_at w) k = label-feed w k

eigen-feed : (x : EigenName) → IsTrue (eigen_is_written x) → NoFeed (eigen_line x)
eigen-feed x h =
    let p = and_parts (is_number x.number) (label_is_written x.home) h in
    join (codes "name " ++ (codes "$$e" ++ decimal x.number) ++ codes " ") (label_text x.home) (join (codes "name " ++ (codes "$$e" ++ decimal x.number)) (codes " ") (join (codes "name ") (codes "$$e" ++ decimal x.number) refl (join (codes "$$e") (decimal x.number) refl (small-feed x.number p.0))) refl) (label-feed x.home p.1)

spare-feed : (x : SpareName) → IsTrue (spare_is_written x) → NoFeed (spare_line x)
spare-feed x h =
    let p = and_parts (is_number x.number) (home_is_written x.home) h in
    join (codes "name $$s" ++ decimal x.number ++ codes " ") (home_text x.home) (join (codes "name $$s" ++ decimal x.number) (codes " ") (join (codes "name $$s") (decimal x.number) refl (small-feed x.number p.0)) refl) (home-feed x.home p.1)

modal-feed : (m : ModalArg) → IsTrue (modal_is_written m) → NoFeed (modal_text m)
modal-feed no_modal h = refl
modal-feed (to w) h = join (codes " to ") (label_text w) refl (label-feed w h)
modal-feed (by_new n) h = join (codes " new $$c") (decimal n) refl (name_number-feed n h)

arg-feed : (S : List Symbol) → IsTrue (list_all symbol_fits S) → (t : TermArg) → IsTrue (term_arg_is_written S t) → NoFeed (term_arg_text S t)
arg-feed S s no_term h = refl
arg-feed S s (by_term t) h = join (codes " term ") (term_text S 0 t) refl (term-feed S s t h)
arg-feed S s (by_name n) h = join (codes " name ") (codes "$$e" ++ decimal n) refl (join (codes "$$e") (decimal n) refl (name_number-feed n h))

step-feed : (S : List Symbol) → IsTrue (list_all symbol_fits S) → (x : Step) → IsTrue (step_is_written S x) → NoFeed (step_line S x)
step-feed S s (apply_to n m t) h =
    let p = and_parts (is_number n && modal_is_written m) (term_arg_is_written S t) h in
    let q = and_parts (is_number n) (modal_is_written m) p.0 in
    join (codes "use " ++ decimal n ++ modal_text m) (term_arg_text S t) (join (codes "use " ++ decimal n) (modal_text m) (join (codes "use ") (decimal n) refl (small-feed n q.0)) (modal-feed m q.1)) (arg-feed S s t p.1)
step-feed S s (close n k) h =
    let p = and_parts (is_number n) (is_number k) h in
    join (codes "axiom " ++ decimal n ++ codes " ") (decimal k) (join (codes "axiom " ++ decimal n) (codes " ") (join (codes "axiom ") (decimal n) refl (small-feed n p.0)) refl) (small-feed k p.1)

pub lines-feed : (P : Problem) → IsTrue (is_problem P) → (d : Derivation) → IsTrue (is_printable P d) → AreNoFeeds (derivation_lines P d)
lines-feed P w d h =
    let p = parts P d h in
    let s = (kept P w).symbols in
    let es = map eigen_line d.names.eigens in
    let ss = map spare_line d.names.spares in
    let xs = map (step_line P.symbols) d.steps in
    lines-join (head_lines P d.limit ++ (es ++ ss) ++ xs) (codes "end" ∷ [])
    (lines-join (head_lines P d.limit ++ (es ++ ss)) xs
    (lines-join (head_lines P d.limit) (es ++ ss) (head-feed (codes "leancop derivation 1") P refl w d.limit p.limit) (lines-join es ss (lines-map eigen_line eigen_is_written eigen-feed d.names.eigens p.eigens) (lines-map spare_line spare_is_written spare-feed d.names.spares p.spares)))
    (lines-map (step_line P.symbols) (step_is_written P.symbols) (step-feed P.symbols s) d.steps p.steps))
    refl
