-- Where a reader stands after it was asked for the field at its place.
-- Assumes nothing.
use Rattle.std.specs.Prelude.{ℕ, Result, Ok, Err, Option, Some, None}
use Rattle.fields.specs.declared.Found.{Found}
use Rattle.fields.specs.declared.Refusal.{Refusal}

-- past the field that it handed out, and else where it stood
abbrev pub next_place : ℕ → Result (Option Found) Refusal → ℕ
next_place at (Ok (Some f)) = f.next
next_place at (Ok None) = at
next_place at (Err r) = at
