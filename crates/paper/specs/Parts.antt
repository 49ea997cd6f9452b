-- A part laid into a list.
use Rattle.std.specs.Prelude.{ℕ, ◌+◌, List, ◌++◌, length, take, drop}
use Rattle.paper.specs.Words.{◌≤?◌, when◌then◌else◌}

-- the list with the part in place of what stood from place a on
unfoldable pub laid : List ℕ → ℕ → List ℕ → List ℕ
laid xs a part = take a xs ++ (part ++ drop (a + length part) xs)

-- the same where there is room for the part; where there is none, the list as it was
unfoldable pub put : List ℕ → ℕ → List ℕ → List ℕ
put xs a part = when (a + length part) ≤? length xs then laid xs a part else xs
