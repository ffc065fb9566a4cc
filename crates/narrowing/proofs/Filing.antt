-- From the nodes of a question's triples to the size of its members' file, and to the file.
-- Assumes nothing.
use mathlib.Core.Path.{◌≡◌, sym, ap, ◌∙◌}
use mathlib.Core.List.{List, ◌++◌}
use Prim.Native.Nat.{ℕ, ◌-◌, ◌<◌, ◌≤◌}
use native.Mathlib.Omega.{arith}
use lib.ListN.{length, take, length-append}
use lib.Seq.{sets, take_at, length-take-le}
use Rattle.std.specs.Prelude.{Ok, Err}
use Rattle.theory.specs.Merging.{Member, members}
use Rattle.algorithms.specs.Sorting.{grouped}
use Rattle.fields.specs.declared.Refusal.TheVariants.{AreaShort}
use Rattle.fields.specs.declared.Size.{Size}
use Rattle.fields.proofs.Filing as fields·Filing
use Rattle.narrowed_question.specs.Members.{narrowed_file}
use Rattle.rules.specs.Requirements.{part}
use Rattle.triples.specs.declared.Span.{Span}
use Rattle.merge.specs.Arranging.{Arranging, Arranged}
use Rattle.merge.specs.Runs.{nodes_at}
use Rattle.triples.specs.Parts.{part_of}
use Rattle.merge.proofs.Sorting.{members_arranged}
use Rattle.members_file.specs.Files.{Measuring, Measured, Filing, Filed}
use Rattle.members_file.proofs.Counting.{arranged_nodes}
use Rattle.narrowing.specs.declared.Counted.{Counted}
use Rattle.narrowing.specs.Call.{file_of}
use Rattle.narrowing.specs.Internal.{Listed, Counts, Known, Puts}

-- ---- the members of a part
module _ {qs ws : List ℕ} {x : Span} (h : Listed qs ws x) where
  pub arranging : (xs : List ℕ) → length xs ≡ x.end - x.start → Arranging qs ws xs x.end x.start (length xs)
  arranging xs l =
      record {
        fits = omega arith;
        small = omega (arith, l, h.few);
        in_use = omega (arith, l, h.ordered);
        in_table = h.in_table;
        sound = h.sound;
        suits = rw l h.suits;
      }

  abbrev many : ℕ
  many = x.end - x.start

  -- the front of an array of 128
  pub front : (xs : List ℕ) → length xs ≡ 128 → length (take many xs) ≡ many
  front xs l = length-take-le many xs (omega (arith, l, h.few))

  module _ {xs ys : List ℕ} (l : length xs ≡ many) (a : Arranged qs ws xs ys x.end x.start (length xs) 0) (zs : List ℕ) where
    first : take many (ys ++ zs) ≡ ys
    first = take_at ys zs many (a.same_length ∙ l)

    all : Measuring qs ws ys x.end (length ys)
    all = rw (← a.same_length) at (arranged_nodes (arranging xs l) a)

    pub measuring : Measuring qs ws (take many (ys ++ zs)) x.end (length (take many (ys ++ zs)))
    measuring = rw first all

    members_are : grouped (nodes_at qs ws ys 0 (length ys)) ≡ members (part qs ws x.start x.end)
    members_are = ap (λ (n : ℕ). grouped (nodes_at qs ws ys 0 n)) a.same_length ∙ sym (members_arranged (arranging xs l) a) ∙ ap (λ (n : ℕ). members (part_of qs ws x.start n)) l

    pub counted : {z : Size} → Measured qs ws (take many (ys ++ zs)) (length (take many (ys ++ zs))) z
        → Counts qs ws (members (part qs ws x.start x.end)) (record { size = z; order = ys ++ zs; triples = many; nodes = x.end })
    counted {z} m =
        let e : grouped (nodes_at qs ws (take many (ys ++ zs)) 0 (length (take many (ys ++ zs)))) ≡ members (part qs ws x.start x.end) = rw first members_are in
        record {
          size = rw (m.members_are, m.bytes_are, e);
          nodes = measuring;
          members_are = e;
          few = omega (arith, m.members_are, m.few, ap length e);
          room = omega (arith, length-append ys zs, a.same_length, l);
        }

-- ---- the file of the members
module _ {qs ws : List ℕ} {ms : List Member} {c : Counted} (g : Counts qs ws ms c) where
  is_members : c.size.count ≡ length ms
  is_members = ap (λ (z : Size). z.count) g.size

  is_bytes : c.size.bytes ≡ length (narrowed_file ms)
  is_bytes = ap (λ (z : Size). z.bytes) g.size

module _ {qs ws : List ℕ} {c : Counted} where
  pub put_short : {file : List ℕ} → length file < c.size.bytes → Puts qs ws c file file (Err (AreaShort c.size.bytes))
  unfolding file_of
  put_short {file} l = record { files = λ ms g. fields·Filing.file_short (length ms) (narrowed_file ms) file (is_bytes g) l }

  pub filing : Known qs ws c → {file : List ℕ} → c.size.bytes ≤ length file → Filing qs ws (take c.triples c.order) c.nodes (length (take c.triples c.order)) c.size.count file
  filing k {file} l =
      let g = k.counts in
      let same = g.members_are in
      record {
        nodes = g.nodes;
        counted = is_members g ∙ sym (ap length same);
        few = omega (arith, is_members g, g.few);
        room = omega (arith, is_bytes g, ap (λ (x : List Member). length (narrowed_file x)) same);
      }

  pub put_filed : {file file' : List ℕ} {n : ℕ} → c.size.bytes ≤ length file → Filed qs ws (take c.triples c.order) (length (take c.triples c.order)) file file' n
      → Puts qs ws c file file' (Ok (record { count = c.size.count; bytes = n }))
  unfolding file_of
  put_filed {file} l f =
      record {
        files = λ ms g.
            let same : narrowed_file (grouped (nodes_at qs ws (take c.triples c.order) 0 (length (take c.triples c.order)))) ≡ narrowed_file ms = ap narrowed_file g.members_are in
            fields·Filing.file_put (length ms) (narrowed_file ms) file (is_bytes g) l (is_members g) (f.bytes_are ∙ ap length same) (f.area ∙ ap (sets file 0) same);
      }
