-- The listing of the office's example file.
use Prim.Native.Nat.{ℕ, zero, suc, ◌*◌, ◌≤◌, ◌<◌}
use native.Mathlib.Omega.{arith}
use mathlib.Core.Path.{◌≡◌, refl, ap, ◌∙◌}
use mathlib.Core.Bool.{true}
use mathlib.Core.List.{List, [], ◌∷◌, ◌++◌}
use lib.ListN.{length}
use lib.Dec.{lit<}
use Rattle.paper.specs.Limits.{slots as slotCount, score_parts, top_score}
use Rattle.paper.specs.Rounding.{nearest}
use Rattle.paper.specs.Ranges.{within}
use Rattle.paper.specs.Lists.{sum, count, first, sum_of, listed}
use Rattle.paper.specs.Rulings.{Outcome, accepted, in_turn}
use Rattle.paper.specs.Bytes.{word, long, word_bytes, long_bytes}
use Rattle.paper.specs.Parts.{laid}
use Rattle.catalogue.specs.Catalogue.{subjects, outside}
use Rattle.scores.specs.Scores.{slot_at, found, slot_of}
use Rattle.scores.specs.Rows.{slots_from, stored}
use Rattle.seek.specs.Sets.{ones_from, sum_over, count_over}
use Rattle.results.specs.Scoring.{score_found, score as scoreOf}
use Rattle.results.specs.Counting.{usable, usable_at, shows_english, kept}
use Rattle.sets.specs.Rules.{wrong, unscored, repeated}
use Rattle.sets.specs.Promise.{aggregate_of}
use Rattle.sets.specs.Computed.{admissible, earlier, chosen}
use Rattle.sets.specs.Examples.{general_row, one_score, catalogue, table}
use Rattle.curve.specs.Population.{S, E}
use Rattle.curve.specs.Curve.{lower, upper, entry, table_of}
use Rattle.ranks.specs.Ranking.{ranks_of, percentiles_of}
use Rattle.tally.specs.Places.{places, band_up_to}
use Rattle.placements.specs.Placing.{remainder}
use Rattle.placements.specs.Bands.{bands_of}
use Rattle.fields.specs.Fields.{Piece, whole, pieces_of}
use Rattle.held.specs.Taking.{new_row}
use Rattle.held.specs.Judging.{holds_id}
use Rattle.held.specs.Reading.{Reader, opened, after, read_all, ended, body, reading}
use Rattle.listing.specs.Text.{digits_in, digits, atar}
use Rattle.printed.specs.Report.{outcome, aggregates_of, lines_of, text_of_outcome, text_of}
use Rattle.office.specs.Office.{row, opening, closing, office, held, listing}
use Rattle.office.proofs.Ahead.{ahead, as_ahead}
use Rattle.office.proofs.Scored.{score, scores, blank, at, row_read}

-- a General row's fields, and those of the parts after it
abbrev general : ℕ → ℕ → List Piece
general subject p = scores (λ j. j * score_parts) subject slotCount 1 p

abbrev start : List Piece
start = ahead 8 0 (opening [])

abbrev after6 : List Piece
after6 = ahead 30 5081 closing

abbrev after5 : List Piece
after5 = whole 5071 (score 6 70 (60 * score_parts)) ∷ after6

abbrev after4 : List Piece
after4 = general 5 4071 ++ after5

abbrev after3 : List Piece
after3 = whole 4061 (score 4 90 (95 * score_parts)) ∷ after4

abbrev after2 : List Piece
after2 = general 3 3061 ++ after3

abbrev after1 : List Piece
after1 = general 2 2061 ++ after2

abbrev after0 : List Piece
after0 = general 1 1061 ++ after1

pieces_are : pieces_of office ≡ start ++ (general 0 61 ++ after0)
unfolding row word word_bytes long_bytes ahead scores
pieces_are = as_ahead office (length office) 0 ∙ refl

-- fields, and those after them
then : (a b : List Piece) (o x : Outcome Reader) → read_all a o ≡ x → read_all (a ++ b) o ≡ read_all b x
then [] b o x e = ap (read_all b) e
then (f ∷ a) b o x e = then a b (after o f) x e

-- the reader with a table, before the figures
abbrev so : ℕ → List ℕ → Outcome Reader
so last t = accepted (at 2021 catalogue last t)

-- n rows with every slot missing, and n General rows before others
abbrev blanks : ℕ → List ℕ
blanks n = blank (n * slotCount)

abbrev generals : ℕ → List ℕ → List ℕ
generals zero others = others
generals (suc n) others = general_row ++ generals n others

top : (slot : ℕ) → slot ≤ slotCount → slot * score_parts ≤ top_score
top slot h = omega arith

started : read_all start (accepted opened) ≡ so 2 (blanks 7)
unfolding ahead word word_bytes long_bytes outside new_row blank
started = refl

-- a General row is read after the rows before it
rowed : (subject p last : ℕ) (before others : List ℕ) → subject < subjects catalogue → within 1 3 last ≡ true → length before ≡ slot_at subject 1
    → read_all (general subject p) (so last (before ++ (blanks 1 ++ others))) ≡ so 3 (before ++ (general_row ++ others))
rowed subject p last before others known l here = row_read 2021 catalogue (λ j. j * score_parts) subject others known top p last before l here

row0 : read_all (general 0 61) (so 2 (blanks 7)) ≡ so 3 (generals 1 (blanks 6))
unfolding blank slots_from word_bytes long_bytes
row0 = rowed 0 61 2 [] (blanks 6) (lit< tt) refl refl

row1 : read_all (general 1 1061) (so 3 (generals 1 (blanks 6))) ≡ so 3 (generals 2 (blanks 5))
unfolding blank slots_from word_bytes long_bytes
row1 = rowed 1 1061 3 (generals 1 []) (blanks 5) (lit< tt) refl refl

row2 : read_all (general 2 2061) (so 3 (generals 2 (blanks 5))) ≡ so 3 (generals 3 (blanks 4))
unfolding blank slots_from word_bytes long_bytes
row2 = rowed 2 2061 3 (generals 2 []) (blanks 4) (lit< tt) refl refl

row3 : read_all (general 3 3061) (so 3 (generals 3 (blanks 4))) ≡ so 3 (generals 4 (blanks 3))
unfolding blank slots_from word_bytes long_bytes
row3 = rowed 3 3061 3 (generals 3 []) (blanks 3) (lit< tt) refl refl

row4 : after (so 3 (generals 4 (blanks 3))) (whole 4061 (score 4 90 (95 * score_parts))) ≡ so 3 (generals 4 (one_score 90 (95 * score_parts) ++ blanks 2))
unfolding blank slots_from word long found stored laid word_bytes long_bytes
row4 = refl

row5 : read_all (general 5 4071) (so 3 (generals 4 (one_score 90 (95 * score_parts) ++ blanks 2))) ≡ so 3 (generals 4 (one_score 90 (95 * score_parts) ++ (general_row ++ blanks 1)))
unfolding blank slots_from word_bytes long_bytes
row5 = rowed 5 4071 3 (generals 4 (one_score 90 (95 * score_parts))) (blanks 1) (lit< tt) refl refl

row6 : after (so 3 (generals 4 (one_score 90 (95 * score_parts) ++ (general_row ++ blanks 1)))) (whole 5071 (score 6 70 (60 * score_parts))) ≡ so 3 table
unfolding blank slots_from word long found stored laid word_bytes long_bytes
row6 = refl

-- how far the file is read at its end: a result of the last student is its last field
abbrev at_end : Reader
at_end = record { far = record { last = 6; subjects = 7; students = 4; latest = 5 }; held = held }

closed : read_all after6 (so 3 table) ≡ accepted at_end
unfolding ahead word word_bytes long listed sum first nearest S E holds_id
closed = refl

all_read : read_all (start ++ (general 0 61 ++ after0)) (accepted opened) ≡ accepted at_end
all_read =
    then start (general 0 61 ++ after0) (accepted opened) (so 2 (blanks 7)) started
    ∙ then (general 0 61) after0 (so 2 (blanks 7)) (so 3 (generals 1 (blanks 6))) row0
    ∙ then (general 1 1061) after1 (so 3 (generals 1 (blanks 6))) (so 3 (generals 2 (blanks 5))) row1
    ∙ then (general 2 2061) after2 (so 3 (generals 2 (blanks 5))) (so 3 (generals 3 (blanks 4))) row2
    ∙ then (general 3 3061) after3 (so 3 (generals 3 (blanks 4))) (so 3 (generals 4 (blanks 3))) row3
    ∙ ap (read_all after4) row4
    ∙ then (general 5 4071) after5 (so 3 (generals 4 (one_score 90 (95 * score_parts) ++ blanks 2))) (so 3 (generals 4 (one_score 90 (95 * score_parts) ++ (general_row ++ blanks 1)))) row5
    ∙ ap (read_all after6) row6
    ∙ closed

-- the file is read
pub read : reading office ≡ accepted held
unfolding reading body row word_bytes long_bytes
read = ap (λ (ps : List Piece). ended (length office) (read_all ps (accepted opened))) pieces_are ∙ ap (ended (length office)) all_read

-- what it holds is listed
pub told : text_of_outcome (accepted held) ≡ listing
unfolding slots_from word_bytes long_bytes sum count first sum_of listed nearest in_turn word long outside found slot_of ones_from sum_over count_over score_found scoreOf usable usable_at shows_english kept wrong unscored repeated admissible earlier chosen aggregate_of S E lower upper entry table_of ranks_of percentiles_of places remainder band_up_to bands_of digits_in digits atar outcome aggregates_of lines_of
told = refl

-- the paper's listing, byte for byte
pub example : text_of office ≡ listing
unfolding text_of
example = ap text_of_outcome read ∙ told
