-- The sizes of components stand behind that of the whole.
use Rattle.std.proofs.Common.{◌≡◌, ℕ, suc, ◌+◌, ◌≤◌, List, length, slice_index, arith}
use Rattle.calculus.proofs.PositionLaws.{size-pos}
use Rattle.calculus.specs.declared.kind.Shape.{Shape}
use Rattle.calculus.specs.declared.sign.Sign.{Sign}
use Rattle.calculus.specs.declared.sign.Sign.TheVariants.{T, F}
use Rattle.calculus.specs.Kinds.{Signed, components, shape_of, signed}
use Rattle.calculus.specs.Positions.{size}
use Rattle.calculus.specs.Syntax.{Formula, atom, neg, conj, disj, imp, all, ex, box, dia}
use Rattle.matrix_build.specs.SizedParts.{HasTwo, HasParts}
use Rattle.matrix_build.specs.Sizes.{HasSize, HasSizes}

size-there : (zs : List ℕ) (q : ℕ) (f : Formula) → HasSizes zs q f → slice_index zs q ≡ size f
size-there zs q (atom p ts) h = h.size_is
size-there zs q (neg a) h = h.0.size_is
size-there zs q (conj a b) h = h.0.size_is
size-there zs q (disj a b) h = h.0.size_is
size-there zs q (imp a b) h = h.0.size_is
size-there zs q (all a) h = h.0.size_is
size-there zs q (ex a) h = h.0.size_is
size-there zs q (box a) h = h.0.size_is
size-there zs q (dia a) h = h.0.size_is

two : (zs : List ℕ) (q : ℕ) (s t : Sign) (a b : Formula) → HasSize zs q (suc (size a + size b)) → HasSizes zs (q + 1) a → HasSizes zs (q + suc (size a)) b → HasTwo zs q (signed s a) (signed t b)
two zs q s t a b h f g =
    let w : q + suc (size a + size b) ≤ length zs = h.within in
    record {
      within = omega arith;
      some = (let p = size-pos a in omega arith);
      size_is = size-there zs (q + 1) a f;
      first = f;
      second = g;
    }

pub sized-parts : (zs : List ℕ) (q : ℕ) (s : Sign) (f : Formula) → HasSizes zs q f → HasParts zs q (shape_of s f) (components s f)
sized-parts zs q s (atom p ts) h = tt
sized-parts zs q s (neg a) h = h.1
sized-parts zs q T (conj a b) h = two zs q T T a b h.0 h.1.0 h.1.1
sized-parts zs q F (conj a b) h = two zs q F F a b h.0 h.1.0 h.1.1
sized-parts zs q T (disj a b) h = two zs q T T a b h.0 h.1.0 h.1.1
sized-parts zs q F (disj a b) h = two zs q F F a b h.0 h.1.0 h.1.1
sized-parts zs q T (imp a b) h = two zs q F T a b h.0 h.1.0 h.1.1
sized-parts zs q F (imp a b) h = two zs q T F a b h.0 h.1.0 h.1.1
sized-parts zs q T (all a) h = h.1
sized-parts zs q F (all a) h = h.1
sized-parts zs q T (ex a) h = h.1
sized-parts zs q F (ex a) h = h.1
sized-parts zs q s (box a) h = h.1
sized-parts zs q s (dia a) h = h.1

-- those of components that the program has
pub parts-of : (zs : List ℕ) (q : ℕ) (s : Sign) (f : Formula) (h : Shape) (xs : List Signed) → h ≡ shape_of s f → xs ≡ components s f → HasSizes zs q f → HasParts zs q h xs
parts-of zs q s f h xs e g p = rw (e, g) (sized-parts zs q s f p)
