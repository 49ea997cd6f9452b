-- Texts put into a buffer one after another.
use Prim.Native.Nat.{ℕ, ◌+◌, ◌-◌, ◌≤◌}
use native.Mathlib.Omega.{arith}
use mathlib.Core.Path.{◌≡◌, refl, sym, ap, ◌∙◌}
use mathlib.Core.List.{List, [], ◌++◌}
use lib.ListN.{length, take, drop, length-append, length-drop, length-replicate, take-append-drop}
use lib.Seq.{length-take-le}
use Rattle.paper.specs.Parts.{laid}
use borrow.Rule.Slice.PartMut.{put_mid}
use Rattle.paper.proofs.Parted.{laid_next, put-laid, laid-inside, length-laid}
use Rattle.listing.specs.Lines.{shown, Shows, line_bytes}
use Rattle.listing.specs.declared.writing.Line.{Line}
use Rattle.lines.specs.Inner.{Put}

-- a text after a text
pub put-more : (b t u : List ℕ) (p e f : ℕ) (x y : List ℕ) → Put b t p e x → Put t u e f y → p ≤ length b → Put b u p f (x ++ y)
put-more b t u p e f x y a c h =
    let m : f ≡ p + length (x ++ y) = simp length-append (omega (arith, a.ends, c.ends)) in
    record {
      content =
          c.content
          ∙ ap (λ (z : List ℕ). laid z e y) a.content
          ∙ ap (λ (k : ℕ). laid (laid b p x) k y) a.ends
          ∙ laid_next b p x h y;
      ends = m;
    }

-- a text copied into a part
pub put-copied : (b : List ℕ) (p : ℕ) (x part : List ℕ) → part ≡ x → Put b (put_mid p (p + length x - p) b part) p (p + length x) x
put-copied b p x part e = record { content = put-laid p (length x) b part (ap length e) ∙ ap (laid b p) e; ends = refl }

-- no text at all
pub put-none : (b : List ℕ) (p : ℕ) → p ≤ length b → Put b b p p []
unfolding laid
put-none b p h =
    let z : p + 0 ≡ p = omega arith in
    record { content = sym (ap (λ (k : ℕ). take p b ++ drop k b) z ∙ take-append-drop p b); ends = sym z }

pub shown-short : {line : Line} {text : List ℕ} → Shows line text → length (shown line) ≤ line_bytes
shown-short w = omega (arith, w.fits, ap length w.same)

-- a text put into the rest of a buffer that was lent on
pub put-part : (b rest t : List ℕ) (p k n : ℕ) (x : List ℕ) → p + k ≡ length b → rest ≡ take k (drop p b) → length x ≤ k → Put rest t 0 n x → Put b (put_mid p k b t) p (p + n) x
put-part b rest t p k n x l e h a =
    let long : length rest ≡ k = ap length e ∙ length-take-le k (drop p b) (simp length-drop (omega arith)) in
    let same : length t ≡ k = ap length a.content ∙ length-laid rest 0 x (omega (arith, long)) ∙ long in
    let m : p + k - p ≡ k = omega arith in
    let z : p + 0 ≡ p = omega arith in
    record {
      content =
          ap (λ (j : ℕ). put_mid p j b t) (sym m)
          ∙ put-laid p k b t same
          ∙ ap (laid b p) (a.content ∙ ap (λ (r : List ℕ). laid r 0 x) e)
          ∙ laid-inside b p k 0 x (omega arith) (omega arith)
          ∙ ap (λ (j : ℕ). laid b j x) z;
      ends = omega (arith, a.ends);
    }

-- of lists, beside what the code needs now

-- a line that shows a text has all its bytes, and shows no more than these
pub line_long : {line : Line} {text : List ℕ} → Shows line text → length line.bytes ≡ line_bytes
line_long {line = line} {text = text} w =
    let a : length (take line.length line.bytes) ≡ length text = ap length w.same in
    let b : length (drop line.length line.bytes) ≡ line_bytes - length text = ap length w.rest ∙ length-replicate (line_bytes - length text) 0 in
    let e : length line.bytes ≡ length (take line.length line.bytes) + length (drop line.length line.bytes) =
    ap length (sym (take-append-drop line.length line.bytes)) ∙ length-append (take line.length line.bytes) (drop line.length line.bytes) in
    omega (arith, w.fits)

pub line_short : {line : Line} {text : List ℕ} → Shows line text → line.length ≤ line_bytes
line_short w = omega (arith, w.fits, w.long)
