use Rattle.std.proofs.Common.{rules, ◌≡◌, ℕ, ◌<◌, List, Option, None, Some, IfSome, length, take, ap, ◌∙◌, arith}
use Rattle.std.specs.Option.{option_map}
use Rattle.std.proofs.lemmas.List.{length-take, take_all}
use Rattle.cop_base.proofs.edge.read_whole.Goals as goal

-- what is read of so many bytes is all, where it is less
all-read : (told : Option (List ℕ)) (n : ℕ) (bytes : List ℕ) → IfSome (option_map (take n) told) (λ xs. bytes ≡ xs) → length bytes < n → IfSome told (λ all. bytes ≡ all)
all-read None n bytes h k = tt
all-read (Some all) n bytes h k = h ∙ take_all n all (omega (arith, ap length h, length-take n all))

pub returns-clause-whole : goal.returns-clause-whole
returns-clause-whole g c = all-read (g.F.Read.remaining c.args.file.now) c.saturating_add.result c.read_to_end.new.buf.items (search rules) (omega (arith, c.saturating_add.ensures, c.if-len-limit.false, c.len.ensures, c.read_to_end.new.buf.ok, c.read_to_end.new.buf.small))

-- what is read of so many bytes is no more than all
some-left : (told : Option (List ℕ)) (n limit : ℕ) (bytes : List ℕ) → IfSome (option_map (take n) told) (λ xs. bytes ≡ xs) → limit < length bytes → IfSome told (λ all. limit < length all)
some-left None n limit bytes h k = tt
some-left (Some all) n limit bytes h k = omega (arith, ap length h, length-take n all, k)

pub returns-then-len-limit-clause-more : goal.returns-then-len-limit-clause-more
returns-then-len-limit-clause-more g c = λ _. some-left (g.F.Read.remaining c.args.file.now) c.saturating_add.result c.args.limit c.read_to_end.new.buf.items (search rules) (omega (arith, c.if-len-limit.true, c.len.ensures))

pub returns-then-len-limit-clause-limited : goal.returns-then-len-limit-clause-limited
returns-then-len-limit-clause-limited g c = λ _ e. absurd (omega (arith, e, c.if-len-limit.true, c.len.ensures, c.read_to_end.new.buf.ok, c.read_to_end.new.buf.small))

pub returns-clause-within : goal.returns-clause-within
returns-clause-within g c = omega (arith, c.if-len-limit.false, c.len.ensures)
