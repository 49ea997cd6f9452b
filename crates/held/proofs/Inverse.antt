-- The fields of an accepted file, joined again, are the file.
use Prim.Native.Nat.{ℕ, ◌<◌}
use native.Mathlib.Omega.{arith}
use mathlib.Core.Path.{◌≡◌, refl, sym, ◌∙◌}
use mathlib.Core.List.{List, [], ◌∷◌}
use lib.ListN.{length}
use Rattle.paper.specs.Bytes.{byte}
use Rattle.paper.specs.Rulings.{Fault, Outcome, accepted, refused, ◌at◌}
use Rattle.fields.specs.Fields.{file_of, Piece, whole, cut, pieces_of, fields_in, Uncut}
use Rattle.fields.proofs.Inverse.{bytes-inverse}
use Rattle.held.specs.Held.{Held}
use Rattle.held.specs.Reading.{Reader, opened, after, read_all, ended, body, reading}
use Rattle.held.proofs.Holding.{small-file}
use Rattle.held.proofs.Promised.{small}

-- after a refusal nothing more is read
pub stays : (ps : List Piece) (x : Fault) → read_all ps (refused x) ≡ refused x
stays [] x = refl
stays (piece ∷ ps) x = stays ps x

-- it is not cut short
uncut : (ps : List Piece) (o : Outcome Reader) (so : Reader) → read_all ps o ≡ accepted so → Uncut ps
uncut [] o so e = tt
uncut (whole p f ∷ ps) o so e = uncut ps (after o (whole p f)) so e
uncut (cut p ∷ ps) (accepted x) so e = let s = stays ps (1 at p) in let z : ◌≡◌ {A = ℕ} 0 1 = cc in omega arith
uncut (cut p ∷ ps) (refused x) so e = let s = stays ps x in let z : ◌≡◌ {A = ℕ} 0 1 = cc in omega arith

all_read : (end : ℕ) (o : Outcome Reader) (held : Held) → ended end o ≡ accepted held → (so : Reader) × (o ≡ accepted so)
all_read end (accepted so) held e = (so, refl)
all_read end (refused x) held e = absurd (let z : ◌≡◌ {A = ℕ} 0 1 = cc in omega arith)

pub accepted-inverse : (file : List ℕ) → ((i : ℕ) → byte file i < 256) → (held : Held) → reading file ≡ accepted held → file_of (fields_in (pieces_of file)) ≡ file
unfolding body
accepted-inverse file bytes held e =
    let a = all_read (length file) (read_all (pieces_of file) (accepted opened)) held (sym (small file (small-file file held e)) ∙ e) in
    bytes-inverse file bytes (uncut (pieces_of file) (accepted opened) a.0 a.1)
