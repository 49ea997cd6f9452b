-- A listing is whole lines: each ends in a line feed.
use Prim.Native.Nat.{ℕ}
use mathlib.Core.Path.{◌≡◌, refl, sym, ap, subst, ◌∙◌}
use mathlib.Core.Logic.{inl, inr}
use mathlib.Core.List.{List, [], ◌∷◌, ◌++◌, append_assoc, append-nil}
use lib.ListN.{get_or}
use Rattle.paper.specs.Rulings.{Outcome, accepted, refused, number_of, place_of}
use Rattle.sets.specs.declared.BestSet.{BestSet}
use Rattle.held.specs.Held.{Enrolled}
use Rattle.listing.specs.Text.{line_feed, space, digits, decimals2, decimals3, atar}
use Rattle.listing.specs.Lines.{ended, refused as word}
use Rattle.printed.specs.Report.{Columns, line_of, after_one, lines_of}
use Rattle.printed.specs.Meaning.{WholeLines}

ends : (parts : List (List ℕ)) → (front : List ℕ) × (ended parts ≡ front ++ (line_feed ∷ []))
ends [] = ([], refl)
ends (part ∷ []) = (part, refl)
ends (part ∷ (next ∷ parts)) =
    let r = ends (next ∷ parts) in
    (part ++ (space ∷ r.0), ap (λ (l : List ℕ). part ++ (space ∷ l)) r.1 ∙ sym (append_assoc part (space ∷ r.0) (line_feed ∷ [])))

pub whole-line : (parts : List (List ℕ)) → WholeLines (ended parts)
whole-line parts = inr (ends parts)

pub whole_join : (xs ys : List ℕ) → WholeLines xs → WholeLines ys → WholeLines (xs ++ ys)
whole_join xs ys (inl e) w = subst (λ (x : List ℕ). WholeLines (x ++ ys)) (sym e) w
whole_join xs ys (inr x) (inl e) = inr (x.0, ap (λ (l : List ℕ). xs ++ l) e ∙ append-nil xs ∙ x.1)
whole_join xs ys (inr x) (inr y) = inr (xs ++ y.0, ap (λ (l : List ℕ). xs ++ l) y.1 ∙ sym (append_assoc xs y.0 (line_feed ∷ [])))

one-whole : (c : Columns) (j id : ℕ) (o : Outcome BestSet) → WholeLines (line_of c j id o)
one-whole c j id (accepted v) = whole-line (digits id ∷ decimals2 (get_or c.aggregates j 0) ∷ digits (get_or c.ranks j 0) ∷ decimals3 (get_or c.percentiles j 0) ∷ atar (get_or c.bands j 0) ∷ [])
one-whole c j id (refused f) = whole-line (digits id ∷ word ∷ digits (number_of f) ∷ digits (place_of f) ∷ [])

pub all_whole : (out : Enrolled → Outcome BestSet) (c : Columns) (j : ℕ) (ss : List Enrolled) → WholeLines (lines_of out c j ss)
unfolding lines_of
all_whole out c j [] = inl refl
all_whole out c j (s ∷ ss) = whole_join _ _ (one-whole c j s.id (out s)) (all_whole out c (after_one j (out s)) ss)
