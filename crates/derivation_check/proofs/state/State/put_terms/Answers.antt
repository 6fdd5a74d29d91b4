use Rattle.std.proofs.Common.{List, refl, subst, sym}
use Rattle.derivation_check.specs.NamesTold.{AreNamed}
use Rattle.derivation_check.specs.OpenSequents.{sequents_of}
use Rattle.derivation_check.specs.declared.term_names.TermNames.{TermNames}
use Rattle.derivation_check.proofs.PutLaws.{kept-put, shown-put}
use Rattle.derivation_check.proofs.state.State.put_terms.Goals as goal

pub put_terms-requires-clause-named : goal.put_terms-requires-clause-named
put_terms-requires-clause-named c = let s = c.args.self.now in (s.homes, subst (λ (xs : List TermNames). AreNamed s.homes c.args.terms.now xs) (sym c.as_slice.ensures.value) c.requires.named)

pub returns-clause-kept : goal.returns-clause-kept
returns-clause-kept c = λ names h. kept-put names c.args.self.now c.put_terms.new.substitutions c.in_ok-places.ensures.grown h

pub returns-clause-shown : goal.returns-clause-shown
returns-clause-shown c = λ names h.
    let s = c.args.self.now in
    shown-put names s.substitutions c.put_terms.new.substitutions s.labels s.eigens s.marks (sequents_of s.sequents) c.in_ok-places.ensures.grown h.sequents

pub returns-clause-named : goal.returns-clause-named
returns-clause-named c = record { homes = refl; named = refl; substitutions = c.in_ok-places.ensures.grown }
