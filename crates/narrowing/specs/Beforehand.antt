-- What the size of a narrowed question's file says of a narrowing with the same files and work area.
-- SPECIFICATION, The calls: a narrowing lent that many bytes is never refused with 14, and lent one fewer always is.
-- Assumes nothing.
use Rattle.std.specs.Prelude.{◌≡◌, List, ℕ, ◌<◌, ◌≤◌, length}
use Rattle.fields.specs.declared.Source.{Source}
use Rattle.fields.specs.declared.Source.TheVariants as source
use Rattle.fields.specs.declared.Size.{Size}
use Rattle.fields.specs.Call.{accepts, refuses}
use Rattle.narrowing.specs.Call.{narrow_call, size_call}

pub record Foretells (sheet question work : List ℕ) : Type 0 where
  -- lent as many bytes or more, it is accepted and tells the same numbers
  pub enough : (z : Size) → (size_call sheet question work).outcome ≡ accepts z → (file : List ℕ) → z.bytes ≤ length file
      → (narrow_call sheet question work file).outcome ≡ accepts z
  -- lent fewer, it is refused with 14, place the bytes needed
  pub fewer : (z : Size) → (size_call sheet question work).outcome ≡ accepts z → (file : List ℕ) → length file < z.bytes
      → (narrow_call sheet question work file).outcome ≡ refuses source.Work 14 z.bytes
  -- "or the refusal that narrowing would give", whatever the area; never 14, which is about the work
  pub refused : (s : Source) (n p : ℕ) → (size_call sheet question work).outcome ≡ refuses s n p → (file : List ℕ)
      → (narrow_call sheet question work file).outcome ≡ refuses s n p
  pub never_14 : (p : ℕ) → (size_call sheet question work).outcome ≡ refuses source.Work 14 p → ⊥
  -- the work words are those after narrowing
  pub work_same : (file : List ℕ) → (size_call sheet question work).work ≡ (narrow_call sheet question work file).work
