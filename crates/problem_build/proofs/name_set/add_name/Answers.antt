use Rattle.std.proofs.Common.{◌≡◌, ◌∙◌, ◌++◌, ◌∷◌, [], List, ℕ, true, false, if◌then◌else◌, sym, ap, subst, arith}
use Rattle.std.specs.List.{list_any}
use Rattle.plain_laws.proofs.Lists.{no-items}
use Rattle.problem_build.specs.Expansion.{same_name}
use Rattle.problem_build.proofs.NameSetLaws.{known-few, one-more, one-of-few}
use Rattle.problem_build.proofs.name_set.add_name.Goals as goal

pub returns-then-is_among : goal.returns-then-is_among
returns-then-is_among c =
    let k : list_any (same_name c.args.name.now) c.args.few.now.items ≡ true = sym (c.is_among.ensures ∙ ap (list_any (same_name c.args.name.now)) c.deref.ensures.value) ∙ c.if-is_among.true in
    known-few c.args.few.now.items c.args.more.now.keys c.args.name.now k

pub returns-then-len-eq0 : goal.returns-then-len-eq0
returns-then-len-eq0 c =
    let k : list_any (same_name c.args.name.now) c.args.few.now.items ≡ false = sym (c.is_among.ensures ∙ ap (list_any (same_name c.args.name.now)) c.deref.ensures.value) ∙ c.if-is_among.false in
    one-of-few c.args.few.now.items c.push.new.self.items c.args.more.now.keys c.args.name.now k
    (no-items c.args.more.now.keys (omega arith)) (c.in_ok-push.ensures.items ∙ ap (λ n. c.args.few.now.items ++ n ∷ []) (c.in_ok-copy.ensures ∙ c.bytes.ensures))

pub returns : goal.returns
returns c =
    let k : list_any (same_name c.args.name.now) c.args.few.now.items ≡ false = sym (c.is_among.ensures ∙ ap (list_any (same_name c.args.name.now)) c.deref.ensures.value) ∙ c.if-is_among.false in
    one-more c.args.few.now.items c.args.more.now.keys c.insert.new.self.keys c.args.name.now k
    (subst (λ (n : List ℕ). c.insert.new.self.keys ≡ (if list_any (same_name n) c.args.more.now.keys then c.args.more.now.keys else c.args.more.now.keys ++ n ∷ []))
    (c.in_ok-copy.ensures ∙ c.bytes.ensures) c.in_ok-insert.ensures.keys)
