use Rattle.std.proofs.Common.{◌∙◌, ap, length, map, refl, subst, sym, IsTrue}
use Rattle.std.proofs.lemmas.List.{length-map}
use Rattle.std.specs.List.{list_all}
use Rattle.store_theory.specs.Stores.{AreOwnSpares}
use Rattle.term_store.specs.ClauseView.{the_gamma}
use Rattle.tableau_reading.specs.Held.{AreFirst}
use Rattle.tableau_reading.specs.Readable.{is_gamma_below}
use Rattle.tableau_reading.proofs.HeldLaws.{common-spares_at, own-spares_at}
use Rattle.tableau_reading.proofs.homes.homes_of.Goals as goal

pub first_held-requires : goal.first_held-requires
first_held-requires c = subst (λ gs. IsTrue (list_all (is_gamma_below (length c.args.store.now.store.cells)) gs)) (sym c.items.ensures) c.requires

pub returns-then-common-clause-spares : goal.returns-then-common-clause-spares
returns-then-common-clause-spares c = λ σ spares. common-spares_at c.args.store.now.store _ c.args.gammas σ c.if-common.true (subst (λ b. AreOwnSpares b c.args.store.now.store c.args.gammas σ (λ v. v)) c.if-common.true spares)

pub returns-clause-spares : goal.returns-clause-spares
returns-clause-spares c = λ σ spares. own-spares_at c.args.store.now.store _ c.args.gammas _ σ c.if-common.false refl (sym (length-map c.items.result.now the_gamma) ∙ ap length c.items.ensures) (subst (λ gs. AreFirst c.args.store.now.store gs (length c.items.result.now) c.in_ok-first.first.items) c.items.ensures c.in_ok-first.ensures) (subst (λ b. AreOwnSpares b c.args.store.now.store c.args.gammas σ (λ v. v)) c.if-common.false spares)
