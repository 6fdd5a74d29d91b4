use Rattle.std.proofs.Common.{◌<◌, arith, length, subst}
use Rattle.formula_text.proofs.Passing.{error-passed}
use Rattle.tableau_text.specs.OpenView.{the_token}
use Rattle.tableau_text.specs.Tokens.{IsToken}
use Rattle.tableau_text.proofs.TokenLaws.{no-token, steps-begun}
use Rattle.tableau_text.proofs.TokenSteps.{token-shorter}
use Rattle.tableau_text.proofs.begun.begin.Goals as goal

pub returns-in_err-token-clause-none : goal.returns-in_err-token-clause-none
returns-in_err-token-clause-none c = λ e.
    no-token c.args.symbols.now c.requires.fits c.args.text.now (c.in_err-token.ensures.none (error-passed c.from_residual.result c.in_err-token.field-0.0 _ c.from_residual.ensures.1 e))

pub returns-in-Bracket-clause-ok : goal.returns-in-Bracket-clause-ok
returns-in-Bracket-clause-ok c = steps-begun c.args.symbols.now c.requires.fits c.in_ok-token.rest.now c.args.text.now (subst (λ t. IsToken c.args.text.now (the_token t) c.in_ok-token.rest.now) c.in-Bracket.is c.in_ok-token.ensures.ok)

pub returns-in_ok-found-in-Name-clause-rest : goal.returns-in_ok-found-in-Name-clause-rest
returns-in_ok-found-in-Name-clause-rest c = let h : length c.in_ok-token.rest.now < length c.args.text.now = token-shorter c.args.text.now (the_token c.in_ok-token.token) c.in_ok-token.rest.now c.in_ok-token.ensures.ok in omega (arith, h, c.in_ok-found-in-Name.ensures.rest)

pub returns-in_ok-found-in-Numbered-clause-rest : goal.returns-in_ok-found-in-Numbered-clause-rest
returns-in_ok-found-in-Numbered-clause-rest c = let h : length c.in_ok-token.rest.now < length c.args.text.now = token-shorter c.args.text.now (the_token c.in_ok-token.token) c.in_ok-token.rest.now c.in_ok-token.ensures.ok in omega (arith, h, c.in_ok-found-in-Numbered.ensures.rest)

pub returns-in-Bracket-clause-rest : goal.returns-in-Bracket-clause-rest
returns-in-Bracket-clause-rest c = let h : length c.in_ok-token.rest.now < length c.args.text.now = token-shorter c.args.text.now (the_token c.in_ok-token.token) c.in_ok-token.rest.now c.in_ok-token.ensures.ok in h

pub returns-in_err-found-in-Name-clause-none : goal.returns-in_err-found-in-Name-clause-none
returns-in_err-found-in-Name-clause-none c = λ e.
    c.in_err-found-in-Name.ensures.none (error-passed c.from_residual-in_err-found-in-Name.result c.in_err-found-in-Name.field-0.0 _ c.from_residual-in_err-found-in-Name.ensures.1 e) c.args.text.now (subst (λ t. IsToken c.args.text.now (the_token t) c.in_ok-token.rest.now) c.in-Name.is c.in_ok-token.ensures.ok)

pub returns-in_err-found-in-Numbered-clause-none : goal.returns-in_err-found-in-Numbered-clause-none
returns-in_err-found-in-Numbered-clause-none c = λ e.
    c.in_err-found-in-Numbered.ensures.none (error-passed c.from_residual-in_err-found-in-Numbered.result c.in_err-found-in-Numbered.field-0.0 _ c.from_residual-in_err-found-in-Numbered.ensures.1 e) c.args.text.now (subst (λ t. IsToken c.args.text.now (the_token t) c.in_ok-token.rest.now) c.in-Numbered.is c.in_ok-token.ensures.ok)
