use Rattle.std.proofs.Common.{◌≡◌, ◌∙◌, ap, map, refl, subst}
use Rattle.store_theory.specs.Bindings.{EndsIn}
use Rattle.term_store.specs.RefView.{the_place}
use Rattle.term_store.specs.Shown.{head_of}
use Rattle.term_store.specs.declared.cell.Head.TheVariants as head
use Rattle.calculus.specs.declared.sort.Sort.TheVariants.{MarkSort, StringSort, TermSort}
use Rattle.tableau_reading.proofs.GroundLaws.{ground-there, grown-self}
use Rattle.tableau_reading.proofs.MakingLaws.{built-there, empty-made, spare-mark_made}
use Rattle.tableau_reading.proofs.grounds.Grounds.build.Goals as goal

pub returns-in-Open-TermSort-clause-value : goal.returns-in-Open-TermSort-clause-value
returns-in-Open-TermSort-clause-value c = built-there c.args.store.now.store c.args.homes.now c.args.end.0 (map the_place c.args.refs.now) (head.Open TermSort) c.head.result c.args.self.now.table c.spare.new.self.table c.args.self.now.made.items c.spare.result c.requires.end c.requires.needs c.head.ensures (c.in-Open-TermSort.is ∙ ap head.Open c.in-Open-TermSort.field-0-is) c.spare.ensures.value

pub returns-in-Open-MarkSort-clause-value : goal.returns-in-Open-MarkSort-clause-value
returns-in-Open-MarkSort-clause-value c = λ σ sp am. ground-there c.args.store.now.store c.args.homes.now c.args.end.0 (map the_place c.args.refs.now) σ (head.Open MarkSort) c.args.self.now.table _ c.requires.end c.requires.needs (subst (λ z. EndsIn c.args.store.now.store c.args.end.0 (λ d. head_of d ≡ z)) (c.in-Open-MarkSort.is ∙ ap head.Open c.in-Open-MarkSort.field-0-is) c.head.ensures) sp (spare-mark_made c.args.self.now.table c.args.end.0)

pub returns-in-Open-StringSort-clause-value : goal.returns-in-Open-StringSort-clause-value
returns-in-Open-StringSort-clause-value c = λ σ sp am. ground-there c.args.store.now.store c.args.homes.now c.args.end.0 (map the_place c.args.refs.now) σ (head.Open StringSort) c.args.self.now.table _ c.requires.end c.requires.needs (subst (λ z. EndsIn c.args.store.now.store c.args.end.0 (λ d. head_of d ≡ z)) (c.in-Open-StringSort.is ∙ ap head.Open c.in-Open-StringSort.field-0-is) c.head.ensures) sp (empty-made c.args.self.now.table _ c.requires.most refl)

pub returns-in-Fun-clause-value : goal.returns-in-Fun-clause-value
returns-in-Fun-clause-value c = built-there c.args.store.now.store c.args.homes.now c.args.end.0 (map the_place c.args.refs.now) (head.Fun c.in-Fun.f) c.head.result c.args.self.now.table c.function.new.self.table c.args.self.now.made.items c.function.result c.requires.end c.requires.needs c.head.ensures c.in-Fun.is c.function.ensures.value

pub returns-in-Eigen-clause-value : goal.returns-in-Eigen-clause-value
returns-in-Eigen-clause-value c = built-there c.args.store.now.store c.args.homes.now c.args.end.0 (map the_place c.args.refs.now) (head.Eigen c.in-Eigen.p) c.head.result c.args.self.now.table c.eigen.new.self.table c.args.self.now.made.items c.eigen.result c.requires.end c.requires.needs c.head.ensures c.in-Eigen.is c.eigen.ensures.value

pub returns-in-New-clause-value : goal.returns-in-New-clause-value
returns-in-New-clause-value c = built-there c.args.store.now.store c.args.homes.now c.args.end.0 (map the_place c.args.refs.now) (head.New c.in-New.p) c.head.result c.args.self.now.table c.new_mark.new.self.table c.args.self.now.made.items c.new_mark.result c.requires.end c.requires.needs c.head.ensures c.in-New.is c.new_mark.ensures.value

pub returns-in-Marks-clause-value : goal.returns-in-Marks-clause-value
returns-in-Marks-clause-value c = built-there c.args.store.now.store c.args.homes.now c.args.end.0 (map the_place c.args.refs.now) head.Marks c.head.result c.args.self.now.table c.string.new.self.table c.args.self.now.made.items c.string.result c.requires.end c.requires.needs c.head.ensures c.in-Marks.is c.string.ensures.value

pub returns-in-Open-MarkSort-clause-grown : goal.returns-in-Open-MarkSort-clause-grown
returns-in-Open-MarkSort-clause-grown c = grown-self c.args.self.now.table c.requires.most

pub returns-in-Open-StringSort-clause-grown : goal.returns-in-Open-StringSort-clause-grown
returns-in-Open-StringSort-clause-grown c = grown-self c.args.self.now.table c.requires.most
