-- What a slot lookup says tells its answer.
use mathlib.Core.Path.{◌≡◌, refl, sym, ap, ◌∙◌}
use Rattle.scores.specs.Scores.{Found, scaled, absent, too_high}
use Rattle.scores.specs.Promise.{looked}
use Rattle.scores.specs.declared.slots.Slot.{Slot}
use Rattle.scores.specs.declared.slots.Slot.TheVariants.{Score, Missing, Over}

-- the case of a slot lookup that means this
abbrev pub seen : Found → Slot
seen (scaled v) = Score (record { 0 = v })
seen absent = Missing
seen too_high = Over

pub seen-looked : (x : Slot) → seen (looked x) ≡ x
seen-looked (Score s) = refl
seen-looked Missing = refl
seen-looked Over = refl

pub looked-once : (x y : Slot) → looked x ≡ looked y → x ≡ y
looked-once x y e = sym (seen-looked x) ∙ ap seen e ∙ seen-looked y
