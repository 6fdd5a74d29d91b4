use Rattle.std.proofs.Common.{refl, arith}
use Rattle.finite_model.proofs.NumberLaws.{is-number, same-number}
use Rattle.finite_model.proofs.sizes.read_size.Goals as goal

pub returns-in_err-n-clause-none : goal.returns-in_err-n-clause-none
returns-in_err-n-clause-none c = λ _ n least most. λ e. c.in_err-n.ensures.none refl n (record { written = is-number n (omega arith); same = e })

pub returns-then-n-lt1-clause-none : goal.returns-then-n-lt1-clause-none
returns-then-n-lt1-clause-none c = λ _ n least most e. let s = same-number c.args.text.now c.in_ok-n.n n (omega arith) (omega arith) c.in_ok-n.ensures.some.same e in omega arith

pub returns-then-n-greatest-clause-none : goal.returns-then-n-greatest-clause-none
returns-then-n-greatest-clause-none c = λ _ n least most e. let s = same-number c.args.text.now c.in_ok-n.n n (omega arith) (omega arith) c.in_ok-n.ensures.some.same e in omega arith
