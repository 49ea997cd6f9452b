-- Lines of texts, and text added to them.
use Prim.Native.Nat.{ℕ, zero, suc, ◌+◌, ◌-◌, ◌≤◌, ◌<◌, min}
use native.Mathlib.Omega.{arith}
use native.Mathlib.Numerals.{unary_clauses}
use mathlib.Core.Path.{◌≡◌, refl, sym, ap, ◌∙◌}
use mathlib.Core.List.{List, [], ◌∷◌, ◌++◌, append_assoc}
use lib.ListN.{length, take, drop, set, replicate, length-append, take-append-drop}
use lib.Seq.{length-take-le, take-append_seam, drop-append_seam}
use borrow.Rule.Slice.PartMut.{put_mid}
use Rattle.paper.specs.Parts.{laid}
use Rattle.paper.proofs.Parted.{put-laid}
use Rattle.listing.specs.Inner.{padded, line_of, Adds}
use Rattle.std.proofs.lemmas.List.{take_min}
use Rattle.listing.specs.Lines.{line_bytes, shown, Shows}
use Rattle.listing.specs.declared.writing.Line.{Line}

-- what there is room for of a text, written over zeros, and after a text
over-zeros : (m : ℕ) (more : List ℕ) (n : ℕ) → n ≡ min (length more) m → take n more ++ drop n (padded m []) ≡ padded m more
unfolding padded
over-zeros zero more n h = let z : n ≡ 0 = omega arith in rw z refl
over-zeros (suc m) [] n h = let z : n ≡ 0 = omega arith in rw z refl
over-zeros (suc m) (x ∷ more) zero h = absurd (omega arith)
over-zeros (suc m) (x ∷ more) (suc n) h = ap (λ (l : List ℕ). x ∷ l) (over-zeros m more n (omega arith))

over-padded : (m : ℕ) (text more : List ℕ) (start n end : ℕ) → start ≡ min m (length text) → n ≡ min (length more) (m - start) → end ≡ start + n
    → take start (padded m text) ++ (take n more ++ drop end (padded m text)) ≡ padded m (text ++ more)
unfolding padded
over-padded zero text more start n end a b c =
    let s : start ≡ 0 = omega arith in
    let z : n ≡ 0 = omega arith in
    let e : end ≡ 0 = omega arith in
    rw (s, z, e) refl
over-padded (suc m) [] more start n end a b c =
    let s : start ≡ 0 = omega arith in
    let e : end ≡ n = omega arith in
    rw (s, e) (over-zeros (suc m) more n (omega arith))
over-padded (suc m) (x ∷ text) more zero n end a b c = absurd (omega arith)
over-padded (suc m) (x ∷ text) more (suc start) n zero a b c = absurd (omega arith)
over-padded (suc m) (x ∷ text) more (suc start) n (suc end) a b c = ap (λ (l : List ℕ). x ∷ l) (over-padded m text more start n end (omega arith) (omega arith) (omega arith))

zeros-padded : (n : ℕ) → padded n [] ≡ replicate n 0
unfolding padded
zeros-padded zero = refl
zeros-padded (suc n) = ap (λ (l : List ℕ). 0 ∷ l) (zeros-padded n)

text_padded : (n : ℕ) (text : List ℕ) → length text ≤ n → padded n text ≡ text ++ replicate (n - length text) 0
unfolding padded
text_padded n [] h = simp unary_clauses (zeros-padded n)
text_padded zero (x ∷ text) h = absurd (omega arith)
text_padded (suc n) (x ∷ text) h = simp unary_clauses (ap (λ (l : List ℕ). x ∷ l) (text_padded n text (omega arith)))

abbrev made : List ℕ → ℕ → Line
made bytes long = record { bytes = bytes; length = long }

-- the bytes up to where a line ends, or its bytes do, are what it shows
pub up_to_end : (line : Line) (n : ℕ) → length line.bytes ≡ line_bytes → n ≡ min line.length line_bytes → take n line.bytes ≡ shown line
up_to_end line n long e =
    let whole : n ≡ min line.length (length line.bytes) = omega arith in
    ap (λ (m : ℕ). take m line.bytes) whole ∙ take_min line.length line.bytes

-- a text more, of which as much is copied as there is room for
pub with_text : (line : Line) (text more part : List ℕ) (start n : ℕ) → line ≡ line_of text → start ≡ min line.length line_bytes → n ≡ min (length more) (line_bytes - start)
    → part ≡ take n more → made (put_mid start (start + n - start) line.bytes part) (start + n) ≡ line_of (text ++ more)
unfolding laid
with_text line text more part start n e s h p =
    let long : line.length ≡ min line_bytes (length text) = ap (λ (l : Line). l.length) e in
    let full : length part ≡ n = ap length p ∙ length-take-le n more (omega arith) in
    let ends : start + n ≡ min line_bytes (length (text ++ more)) = simp length-append (omega arith) in
    let end = start + length part in
    let content : put_mid start (start + n - start) line.bytes part ≡ padded line_bytes (text ++ more) =
    put-laid start n line.bytes part full
    ∙ ap (λ (b : List ℕ). take start b ++ (part ++ drop end b)) (ap (λ (l : Line). l.bytes) e)
    ∙ ap (λ (t : List ℕ). take start (padded line_bytes text) ++ (t ++ drop end (padded line_bytes text))) p
    ∙ over-padded line_bytes text more start n end (omega arith) (omega arith) (omega arith)
    in
    rw (content, ends) refl

infixr 5 ◌then◌
-- one text after another
pub ◌then◌ : {a b c : Line} {first second : List ℕ} → Adds a b first → Adds b c second → Adds a c (first ++ second)
(◌then◌) {first = first} {second = second} f g = record { added = λ text e. rw (← append_assoc text first second) (g.added (text ++ first) (f.added text e)) }

-- the line of a text that fits shows it
pub shows : (text : List ℕ) → length text ≤ line_bytes → Shows (line_of text) text
shows text h =
    let s : min line_bytes (length text) ≡ length text = omega arith in
    record {
      fits = h;
      same = rw (s, text_padded line_bytes text h) (take-append_seam text (replicate (line_bytes - length text) 0));
      long = s;
      rest = rw (s, text_padded line_bytes text h) (drop-append_seam text (replicate (line_bytes - length text) 0));
    }

pub written : {a b : Line} {text : List ℕ} → length text ≤ line_bytes → a ≡ line_of [] → Adds a b text → Shows b text
written {text = text} h e f = rw (f.added [] e) (shows text h)

-- two lines that show one text are equal
bytes_of : {line : Line} {text : List ℕ} → Shows line text → line.bytes ≡ text ++ replicate (line_bytes - length text) 0
bytes_of {line} p = sym (take-append-drop line.length line.bytes) ∙ rw (p.same, p.rest) refl

pub determined : {a b : Line} {text : List ℕ} → Shows a text → Shows b text → a ≡ b
determined p q = rw (bytes_of p, bytes_of q, p.long, q.long) refl

-- of lists, beside what the code needs now

-- a byte more where there is room, and none where there is not
more_padded : (n : ℕ) (text : List ℕ) (byte : ℕ) → length text < n → set (padded n text) (length text) byte ≡ padded n (text ++ (byte ∷ []))
unfolding padded
more_padded zero text byte h = absurd (omega arith)
more_padded (suc n) [] byte h = refl
more_padded (suc n) (x ∷ text) byte h = ap (λ (l : List ℕ). x ∷ l) (more_padded n text byte (omega arith))

full-padded : (n : ℕ) (text more : List ℕ) → n ≤ length text → padded n text ≡ padded n (text ++ more)
unfolding padded
full-padded zero text more h = refl
full-padded (suc n) [] more h = absurd (omega arith)
full-padded (suc n) (x ∷ text) more h = ap (λ (l : List ℕ). x ∷ l) (full-padded n text more (omega arith))

pub with_byte : (text : List ℕ) (byte : ℕ) → min line_bytes (length text) < line_bytes → made (set (padded line_bytes text) (min line_bytes (length text)) byte) (min line_bytes (length text) + 1) ≡ line_of (text ++ (byte ∷ []))
with_byte text byte h =
    let s : min line_bytes (length text) ≡ length text = omega arith in
    let l : min line_bytes (length (text ++ (byte ∷ []))) ≡ length text + 1 = simp length-append (omega arith) in
    rw (s, more_padded line_bytes text byte (omega arith), l) refl

pub full-line : (text more : List ℕ) → line_bytes ≤ min line_bytes (length text) → line_of text ≡ line_of (text ++ more)
full-line text more h =
    let l : min line_bytes (length (text ++ more)) ≡ min line_bytes (length text) = simp length-append (omega arith) in
    rw (full-padded line_bytes text more (omega arith), l) refl
