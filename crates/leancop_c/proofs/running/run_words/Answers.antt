use Rattle.std.proofs.Common.{◌≡◌, ◌∙◌, ap, false, length, map, refl, string_bytes, subst, sym}
use Rattle.std.specs.Prelude.{IfSome, IsNone}
use Rattle.leancop_c.specs.GivenFiles.{words_of}
use Rattle.leancop_c.specs.Ran.{are_texts, unread}
use Rattle.leancop_c.proofs.Runs.{lost-told, run-told}
use Rattle.leancop_c.proofs.running.run_words.Goals as goal

pub returns-in-Ok-Some : goal.returns-in-Ok-Some
returns-in-Ok-Some c =
    let named = subst (λ t. IfSome t (λ ts. map string_bytes ts.items ≡ words_of c.args.words.now)) c.in-Ok-Some.field-0-is c.in-Ok-Some.ensures.texts in
    run-told _ _ _ _ _ _ _ _ _ _ _ c.run_over-ran.ensures named c.as_slice.ensures.value c.place.ensures
    (c.len.ensures ∙ sym c.as_slice.ensures.len ∙ ap length c.as_slice.ensures.value) c.from.ensures c.exit_code.ensures

pub returns-in-Ok-None : goal.returns-in-Ok-None
returns-in-Ok-None c =
    unread (subst (λ t. IsNone t → are_texts (words_of c.args.words.now) ≡ false) c.in-Ok-None.field-0-is c.in-Ok-None.ensures.no_texts refl)

pub returns-in-Err : goal.returns-in-Err
returns-in-Err c = lost-told _ _ _
