use Rattle.std.proofs.Common.{◌<◌, ℕ, length, subst, sym, ◌∙◌, ap}
use Rattle.std.proofs.lemmas.Bool.{false≢true}
use Rattle.sequent_convert.specs.AheadView.{Ahead}
use Rattle.sequent_convert.specs.ByNumber.RunView.{the_run, the_source}
use Rattle.std.specs.List.{AllByRecursion}
use Rattle.conversion_theory.specs.Leading.{turns_before}
use Rattle.sequent_convert.specs.State.{turns_at}
use Rattle.sequent_convert.proofs.TurnPlaces.{all-take, all-drop}
use Rattle.sequent_convert.proofs.MoveLaws.{move-first, move-second, move-other}
use Rattle.sequent_convert.proofs.run.Run.choose.Goals as goal

pub returns-then-begins-clause-moves : goal.returns-then-begins-clause-moves
returns-then-begins-clause-moves c =
    let B = the_source c.args.source.now in
    let s = the_run c.args.source.now c.args.self.now in
    let d = c.requires.ahead in
    let parts = c.parts_at-parts.ensures d.turn d.turns d.made.first in
    move-second B s _ c.args.second d c.parts_at-parts.result.1.turns.now (ap (λ (a : Ahead). a.turns) parts.1) (c.begins.ensures c.if-begins.true) (ap (λ (a : Ahead). record s { ahead = a }) parts.1)

pub returns-then-begins_somewhere-clause-moves : goal.returns-then-begins_somewhere-clause-moves
returns-then-begins_somewhere-clause-moves c =
    let B = the_source c.args.source.now in
    let s = the_run c.args.source.now c.args.self.now in
    let d = c.requires.ahead in
    let parts = c.parts_at-parts.ensures d.turn d.turns d.made.first in
    move-first B s _ c.args.second d c.parts_at-parts.result.0.turns.now (ap (λ (a : Ahead). a.turns) parts.0) (c.begins_somewhere.ensures.yes c.if-begins_somewhere.true) (ap (λ (a : Ahead). record s { ahead = a }) parts.0)

pub returns-clause-moves : goal.returns-clause-moves
returns-clause-moves c =
    let B = the_source c.args.source.now in
    let s = the_run c.args.source.now c.args.self.now in
    let d = c.requires.ahead in
    let parts = c.parts_at-parts.ensures d.turn d.turns d.made.first in
    move-other B s _ c.args.second d c.parts_at-parts.result.0.turns.now (ap (λ (a : Ahead). a.turns) parts.0) (c.begins_somewhere.ensures.no (λ t. false≢true (sym c.if-begins_somewhere.false ∙ t))) (ap (λ (a : Ahead). record s { ahead = a }) parts.1)

pub begins-requires-clause-within : goal.begins-requires-clause-within
begins-requires-clause-within c =
    let B = the_source c.args.source.now in
    let P = λ (k : ℕ). k < length B.named.agenda in
    let d = c.requires.ahead in
    let parts = c.parts_at-parts.ensures d.turn d.turns d.made.first in
    let all = subst (AllByRecursion P) d.made.first c.requires.run.ahead.within in
    subst (AllByRecursion P) (sym (ap (λ (a : Ahead). a.turns) parts.1)) (all-drop P (turns_before c.args.second (turns_at B d.turns)) d.turns all.1)

pub begins_somewhere-requires-clause-within : goal.begins_somewhere-requires-clause-within
begins_somewhere-requires-clause-within c =
    let B = the_source c.args.source.now in
    let P = λ (k : ℕ). k < length B.named.agenda in
    let d = c.requires.ahead in
    let parts = c.parts_at-parts.ensures d.turn d.turns d.made.first in
    let all = subst (AllByRecursion P) d.made.first c.requires.run.ahead.within in
    subst (AllByRecursion P) (sym (ap (λ (a : Ahead). a.turns) parts.0)) (all-take P (turns_before c.args.second (turns_at B d.turns)) d.turns all.1)
