use Rattle.search_tree.proofs.regular.are_new_from.Goals as goal

pub returns-in-None-clause-new : goal.returns-in-None-clause-new
returns-in-None-clause-new c = λ t. c.in_ok-repeated.ensures.new c.in-None.is

pub returns-in-Some-clause-repeated : goal.returns-in-Some-clause-repeated
returns-in-Some-clause-repeated c = λ f. c.in_ok-repeated.ensures.repeated c.in-Some._goal c.in-Some.is
