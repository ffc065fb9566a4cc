-- Members one after the other: what an entry says of the first, and what is left to count.
-- Assumes nothing.
use mathlib.Core.Path.{◌≡◌, sym, ap, ◌∙◌}
use mathlib.Core.List.{List, map}
use Prim.Native.Nat.{ℕ, suc, ◌+◌, ◌*◌, ◌<◌, ◌≤◌}
use native.Mathlib.Nat.{zero-add}
use native.Mathlib.Omega.{arith}
use lib.ListN.{length, length-append}
use Rattle.theory.specs.PathExpr.{postfix}
use Rattle.theory.specs.Merging.{Member}
use Rattle.algorithms.specs.Sorting.{grouped}
use Rattle.symbols.specs.Symbols.{Numbered, number_symbol}
use Rattle.narrowed_question.specs.Form.{flat}
use Rattle.fields.specs.Writing.{two_bytes, field_bytes}
use Rattle.symbols.specs.Writing.{symbols_bytes}
use Rattle.narrowed_question.specs.Writing.{head_bytes, member_bytes, members_bytes, encode}
use Rattle.narrowed_question.specs.Members.{flat_of, narrowed_file}
use Rattle.merge.specs.declared.Group.{Group}
use Rattle.merge.specs.Arranging.{Arranging, Arranged}
use Rattle.merge.specs.Runs.{nodes_at, Running, Ran}
use Rattle.merge.proofs.Segments.{segment_end}
use Rattle.members_file.specs.declared.Entry.{Entry}
use Rattle.members_file.specs.Files.{renumbered, Numbering, Next, Measuring, Measured}
use Rattle.members_file.proofs.Symbols.{path_numbered}

-- ---- an entry
module _ {qs ws xs : List ℕ} {n k : ℕ} {cs ss : List ℕ} {g : Group} (r : Ran qs ws xs n k cs ss g) where
  pub entry_is : {ys : List ℕ} {b : ℕ} → Numbering cs ss ys g.size b → Next qs ws xs n k ys ss (record { group = g; bytes = 20 + b })
  entry_is {ys} {b} v =
      let h = r.holds in
      let m = r.first in
      let e : map number_symbol (postfix m.path) ≡ renumbered cs ss g.size 0 = path_numbered m.path h.inferred cs ss g.size h.codes_are h.sets_are in
      let f : flat_of m ≡ flat g.from g.to (renumbered cs ss g.size 0) = (λ i. flat (sym h.from_is i) (sym h.to_is i) (e i)) in
      let z : length (member_bytes (flat_of m)) ≡ 20 + length (symbols_bytes (renumbered cs ss g.size 0))
      = length-append (head_bytes (flat_of m)) (symbols_bytes (flat_of m).symbols) ∙ ap (λ (l : List Numbered). 20 + length (symbols_bytes l)) e in
      record {
        first = m;
        is = r.is;
        flat_is = f ∙ ap (flat g.from g.to) (sym v.symbols_are);
        bytes_are = omega (arith, v.bytes_are, z);
        at_most = omega (arith, v.at_most, h.few);
        few = h.few;
        onward = r.onward;
        within = r.within;
        codes_room = v.same_length ∙ r.codes_room;
        sets_room = r.sets_room;
      }

-- ---- the bytes of what is left
abbrev pub bytes_left : List ℕ → List ℕ → List ℕ → ℕ → ℕ → List ℕ
bytes_left qs ws xs k n = members_bytes (map flat_of (grouped (nodes_at qs ws xs k n)))

pub file_length : (ms : List Member) → length (narrowed_file ms) ≡ 5 + length (members_bytes (map flat_of ms))
unfolding narrowed_file encode
file_length ms = length-append (field_bytes 0x41 (two_bytes (length (map flat_of ms)))) (members_bytes (map flat_of ms))

-- ---- the loop
pub record Counting (qs ws xs : List ℕ) (n : ℕ) (cs ss : List ℕ) (members bytes k : ℕ) : Type 0 where
  pub within : k ≤ n
  pub members_are : members + length (grouped (nodes_at qs ws xs k n)) ≡ length (grouped (nodes_at qs ws xs 0 n))
  pub bytes_are : bytes + length (bytes_left qs ws xs k n) ≡ length (narrowed_file (grouped (nodes_at qs ws xs 0 n)))
  pub few : members ≤ k
  pub small : bytes ≤ 5 + 548 * members
  pub codes_room : length cs ≡ 48
  pub sets_room : length ss ≡ 48

module _ {qs ws xs : List ℕ} {used n : ℕ} (h : Measuring qs ws xs used n) where
  pub running : {k : ℕ} {cs ss : List ℕ} → k < n → length cs ≡ 48 → length ss ≡ 48 → Running qs ws xs used n k cs ss
  running l ec es = record { in_run = l; fits = h.fits; items = λ j a b. h.items j b; codes_room = ec; sets_room = es }

  pub count_start : {cs ss : List ℕ} → length cs ≡ 48 → length ss ≡ 48 → Counting qs ws xs n cs ss 0 5 0
  count_start ec es =
      record {
        within = omega arith;
        members_are = zero-add (length (grouped (nodes_at qs ws xs 0 n)));
        bytes_are = sym (file_length (grouped (nodes_at qs ws xs 0 n)));
        few = omega arith;
        small = omega arith;
        codes_room = ec;
        sets_room = es;
      }

  module _ {cs ss : List ℕ} {members bytes k : ℕ} (c : Counting qs ws xs n cs ss members bytes k) where
    pub count_asks : k < n → Running qs ws xs used n k cs ss
    count_asks l = running l c.codes_room c.sets_room

    pub count_turn : {cs' ss' : List ℕ} {r : Entry} → Next qs ws xs n k cs' ss' r → Counting qs ws xs n cs' ss' (members + 1) (bytes + r.bytes) r.group.next
    count_turn {r = r} e =
        let a : length (grouped (nodes_at qs ws xs k n)) ≡ suc (length (grouped (nodes_at qs ws xs r.group.next n))) = ap length e.is in
        let b : length (bytes_left qs ws xs k n) ≡ r.bytes + length (bytes_left qs ws xs r.group.next n)
        = ap (λ (ms : List Member). length (members_bytes (map flat_of ms))) e.is ∙ length-append (member_bytes (flat_of e.first)) (bytes_left qs ws xs r.group.next n)
        ∙ ap (λ (x : ℕ). x + length (bytes_left qs ws xs r.group.next n)) (sym e.bytes_are) in
        record {
          within = e.within;
          members_are = omega (arith, c.members_are, a);
          bytes_are = omega (arith, c.bytes_are, b);
          few = omega (arith, c.few, e.onward);
          small = omega (arith, c.small, e.at_most);
          codes_room = e.codes_room;
          sets_room = e.sets_room;
        }

    pub count_over : n ≤ k → Measured qs ws xs n (record { count = members; bytes = bytes })
    count_over l =
        let a : length (grouped (nodes_at qs ws xs k n)) ≡ 0 = rw (segment_end xs k n l) in
        let b : length (bytes_left qs ws xs k n) ≡ 0 = rw (segment_end xs k n l) in
        record { members_are = omega (arith, c.members_are, a); bytes_are = omega (arith, c.bytes_are, b); few = omega (arith, c.few, c.within, h.small) }

-- ---- the nodes as they were arranged
pub arranged_nodes : {qs ws xs ys : List ℕ} {used s n : ℕ} → Arranging qs ws xs used s n → Arranged qs ws xs ys used s n 0 → Measuring qs ws ys used n
arranged_nodes h a = record { fits = omega (arith, h.fits, a.same_length); small = h.small; items = λ j l. a.items j (omega arith) l }
