use Rattle.std.proofs.Common.{ap, subst, sym, ◌∙◌}
use Rattle.std.proofs.lemmas.Bool.{not-false, not-true}
use Rattle.std.specs.Prelude.{IfSome, Option}
use Rattle.std.specs.Option.{option_map}
use Rattle.tableau_cert.specs.Gathering.{AreNormalLiterals, the_summary}
use Rattle.tableau_text.specs.MovesView.{the_chosen}
use Rattle.tableau_cert.specs.declared.gathering.Gathered.{Gathered}
use Rattle.tableau_cert.proofs.FoundLaws.{found-left_over, found-stopped}
use Rattle.tableau_cert.proofs.resolving.judged.Goals as goal

pub returns-in-None : goal.returns-in-None
returns-in-None c P before after g a n h e = found-stopped P c.args.given.now before after (the_chosen c.args.given.now c.args.chosen.now) c.none.result h a (ap (option_map (the_summary after)) (sym c.in-None.is) ∙ e) c.none.ensures.outcome c.none.ensures.steps

pub returns-then-not-all : goal.returns-then-not-all
returns-then-not-all c P before after g a n h e = found-left_over P c.args.given.now before after (the_chosen c.args.given.now c.args.chosen.now) _ h (the_summary after c.in-Some.all) a (ap (option_map (the_summary after)) (sym c.in-Some.is) ∙ e) (not-true _ c.if-not-all.true) c.none-then-not-all.ensures.outcome c.none-then-not-all.ensures.steps

pub returns-in_ok-found-in-Some : goal.returns-in_ok-found-in-Some
returns-in_ok-found-in-Some c P before after g a n h e = c.in_ok-found-in-Some.ensures P before after g h a (subst (λ (o : Option Gathered). IfSome o (λ x. AreNormalLiterals after x.literals)) c.in-Some.is n) (not-false _ c.if-not-all.false) (ap (option_map (the_summary after)) (sym c.in-Some.is) ∙ e)
