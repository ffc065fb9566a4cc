-- A run of nodes with equal codes becomes a member: the sets ORed, a node taken in, the turns of the loop.
-- Assumes nothing.
use mathlib.Core.Path.{◌≡◌, refl, sym, ap, ap₂, ◌∙◌, subst}
use mathlib.Core.Bool.{Bool, true, false, not, true≢false, false≢true}
use mathlib.Core.Logic.{◌⊎◌, inl, inr, ⊎_elim}
use mathlib.Core.List.{List, ◌∷◌, map, zip_with}
use Prim.Native.Nat.{ℕ, zero, suc, ◌+◌, ◌-◌, ◌<◌, ◌≤◌}
use native.Mathlib.Nat.{eq-or-lt_of_le}
use native.Mathlib.Omega.{arith}
use lib.Bits.{bit_or}
use lib.Dec.{T, eqb}
use lib.Pointwise.{pointwise}
use lib.ListN.{length, get_or, set, take, length-set}
use lib.Seq.{get_or-set_same, get_or-set_other, length-take-le}
use Rattle.theory.specs.Lists.{tabulate}
use Rattle.theory.specs.KindSet.{singleton, set_union}
use Rattle.theory.specs.PathExpr.{codes, before?, size}
use Rattle.theory.specs.Merging.{Member, merged}
use Rattle.theory.specs.JoinSets.{sets_of, set_unions}
use Rattle.algorithms.specs.Sorting.{grouped, alike?}
use Rattle.theory.proofs.Tests.{to_true}
use Rattle.theory.proofs.Order.{trichotomy, codes_merge, merged_linked}
use Rattle.algorithms.proofs.Sorting.{ahead_unlike, ahead_unlike', codes_alike, group_takes, group_ends}
use Rattle.theory.proofs.JoinSets.{merge_inferred, merged_sets}
use Rattle.triples.specs.Paths.{triple_of}
use Rattle.triples.specs.Expansion.{Expanded, Expandable}
use Rattle.triples.proofs.Triples.{triple_from, triple_to}
use Rattle.symbols.proofs.Numbers.{length_codes}
use Rattle.theory.proofs.Lists.{tabulate_same}
use Rattle.merge.specs.declared.Ends.{Ends}
use Rattle.merge.specs.Arrays.{segment}
use Rattle.merge.specs.Arranging.{member_at, Usable}
use Rattle.merge.specs.Runs.{Singles, Ored, Taking, Differ, Taken, HoldsMember, nodes_at, Running, Ran}
use Rattle.merge.proofs.Segments.{segment_next, segment_end, segment_take, segment_taken}
use Rattle.merge.proofs.Comparing.{ready, expanded_end, expanded_codes, expanded_sets, tells_same, tells_other}

-- ---- sets ORed
pub or_start : (fs xs : List ℕ) → Ored fs xs xs 0
or_start fs xs = record { same_length = refl; done = λ k l. absurd (omega arith); rest = λ k l. refl }

pub or_turn : {fs xs ys : List ℕ} {j : ℕ} → Ored fs xs ys j → j < length xs → Ored fs xs (set ys j (bit_or (get_or ys j 0) (get_or fs j 0))) (j + 1)
unfolding set_union
or_turn {fs} {xs} {ys} {j} g l =
    let v = bit_or (get_or ys j 0) (get_or fs j 0) in
    record {
      same_length = length-set ys j v ∙ g.same_length;
      done = λ k m. ⊎_elim
          (λ (e : k ≡ j). rw e (get_or-set_same ys j v 0 (omega (arith, g.same_length)) ∙ ap (λ (x : ℕ). bit_or x (get_or fs j 0)) (g.rest j (omega arith))))
          (λ (n : k < j). get_or-set_other ys j k v 0 (omega arith) ∙ g.done k n)
          (eq-or-lt_of_le (omega arith));
      rest = λ k m. get_or-set_other ys j k v 0 (omega arith) ∙ g.rest k (omega arith);
    }

tabulate_unions : (f g : ℕ → ℕ) (s n : ℕ) → tabulate (λ k. set_union (f k) (g k)) s n ≡ set_unions (tabulate f s n) (tabulate g s n)
unfolding zip_with
tabulate_unions f g s zero = refl
tabulate_unions f g s (suc n) = ap {B = List ℕ} (λ zs. set_union (f s) (g s) ∷ zs) (tabulate_unions f g (suc s) n)

-- so it is the union of the lists
ored_segment : {fs xs ys : List ℕ} {n : ℕ} → Ored fs xs ys n → segment ys 0 n ≡ set_unions (segment xs 0 n) (segment fs 0 n)
unfolding segment
ored_segment {fs} {xs} {ys} {n} g =
    tabulate_same (λ k. get_or ys k 0) (λ k. set_union (get_or xs k 0) (get_or fs k 0)) 0 (n - 0) (λ k a b. g.done k (omega arith))
    ∙ tabulate_unions (λ k. get_or xs k 0) (λ k. get_or fs k 0) 0 (n - 0)

-- different lists: one comes before the other
differ : (a b : List ℕ) → ¬ (a ≡ b) → Differ a b
differ a b n = go (trichotomy a b)
  where
    go : T (before? a b) ⊎ ((a ≡ b) ⊎ T (before? b a)) → Differ a b
    go (inl t) = inl (to_true (before? a b) t)
    go (inr (inl s)) = absurd (n s)
    go (inr (inr t)) = inr (to_true (before? b a) t)

-- ---- a node taken in
module _ {qs ws : List ℕ} {used i : ℕ} {cs ss : List ℕ} (h : Taking qs ws used i cs ss) {xs ys xs' ys' : List ℕ} {m : ℕ} (ex : length xs ≡ 48)
    (w : Expanded (triple_of qs ws i).path 0 xs ys xs' ys' m) where
  own_codes : take m xs' ≡ codes (triple_of qs ws i).path
  own_codes = sym (segment_take xs' m (expanded_end h.usable w ex)) ∙ expanded_codes h.usable w ex

  module _ {r : Bool} (e : r ≡ not (pointwise eqb cs (take m xs'))) where
    pub taken_not : r ≡ true → Taken qs ws i cs ss ss false
    taken_not t =
        record {
          same_length = refl;
          equal = λ z. absurd (false≢true z);
          unions = λ z. absurd (false≢true z);
          differ = λ z. differ cs (codes (triple_of qs ws i).path) (λ k. tells_other cs (take m xs') r e t (k ∙ sym own_codes));
          same = λ z. refl;
        }

    pub taken_in : r ≡ false → length ys ≡ 48 → {ss' : List ℕ} → Ored (take m ys') ss ss' (length (take m ys')) → Taken qs ws i cs ss ss' true
    taken_in f ey {ss'} o =
        let k : cs ≡ take m xs' = tells_same cs (take m xs') r e f in
        let l : m ≤ length xs' = expanded_end h.usable w ex in
        let n : length cs ≡ m = ap length k ∙ length-take-le m xs' l in
        let l' : m ≤ length ys' = omega (arith, ey, w.sets_length, h.few) in
        let q : length (take m ys') ≡ m = length-take-le m ys' l' in
        let s : segment (take m ys') 0 m ≡ sets_of (triple_of qs ws i).path = segment_taken ys' m l' ∙ expanded_sets h.usable w ey in
        record {
          same_length = o.same_length;
          equal = λ t. k ∙ own_codes;
          unions = λ t. rw n (ored_segment (rw q at o) ∙ ap (set_unions (segment ss 0 m)) s);
          differ = λ t. absurd (true≢false t);
          same = λ t. absurd (true≢false t);
        }

-- ---- the loop over a run: the member so far, and the nodes behind it
pub record Gathering (qs ws xs : List ℕ) (n k : ℕ) (cs ss : List ℕ) (count from to j : ℕ) : Type 0 where
  pub sofar : Member
  pub holds : HoldsMember cs ss count from to sofar
  pub left : grouped (nodes_at qs ws xs k n) ≡ grouped (sofar ∷ nodes_at qs ws xs j n)
  pub onward : k < j
  pub within : j ≤ n
  pub codes_room : length cs ≡ 48
  pub sets_room : length ss ≡ 48
  -- for omega to find
  pub few : count ≤ 48

nodes_next : (qs ws xs : List ℕ) (k n : ℕ) → k < n → nodes_at qs ws xs k n ≡ member_at qs ws (get_or xs k 0) ∷ nodes_at qs ws xs (k + 1) n
nodes_next qs ws xs k n h = ap (map (member_at qs ws)) (segment_next xs k n h)

module _ {qs ws xs : List ℕ} {used n k : ℕ} {cs₀ ss₀ : List ℕ} (h : Running qs ws xs used n k cs₀ ss₀) where
  -- a node of the array is one of the table
  in_words : (j : ℕ) → k ≤ j → j < n → get_or xs j 0 < length ws
  in_words j a b = let u = h.items j a b in omega (arith, u.has.in_use, u.has.in_table)

  pub first_in : get_or xs k 0 < length ws
  first_in = in_words k (omega arith) h.in_run

  pub first_ready : Expandable qs ws used (get_or xs k 0) 0 cs₀ ss₀
  first_ready = ready (h.items k (omega arith) h.in_run) cs₀ ss₀ h.codes_room h.sets_room

  pub run_start : {cs ss : List ℕ} {count : ℕ} {e : Ends} → Expanded (triple_of qs ws (get_or xs k 0)).path 0 cs₀ ss₀ cs ss count → Singles ws (get_or xs k 0) e
      → Gathering qs ws xs n k cs ss count e.from e.to (k + 1)
  run_start {cs} {ss} {count} w e =
      let i = get_or xs k 0 in
      let u = h.items k (omega arith) h.in_run in
      let z : count ≡ size (triple_of qs ws i).path = omega (arith, w.ends, length_codes (triple_of qs ws i).path) in
      let f : count ≤ 48 = omega (arith, u.suits.short) in
      record {
        sofar = member_at qs ws i;
        holds = record {
          sized = z;
          few = f;
          codes_are = expanded_codes u w h.codes_room;
          sets_are = expanded_sets u w h.sets_room;
          from_is = e.from_is ∙ ap singleton (sym (triple_from qs ws i));
          to_is = e.to_is ∙ ap singleton (sym (triple_to qs ws i));
          inferred = u.suits.inferred;
          linked = u.suits.linked;
        };
        left = ap grouped (nodes_next qs ws xs k n h.in_run);
        onward = omega arith;
        within = omega (arith, h.in_run);
        codes_room = w.codes_length ∙ h.codes_room;
        sets_room = w.sets_length ∙ h.sets_room;
        few = f;
      }

  module _ {cs ss : List ℕ} {count from to j : ℕ} (g : Gathering qs ws xs n k cs ss count from to j) where
    abbrev m : Member
    m = g.sofar

    stands : {ss' : List ℕ} → ss' ≡ ss → grouped (m ∷ nodes_at qs ws xs j n) ≡ m ∷ grouped (nodes_at qs ws xs j n)
        → Ran qs ws xs n k cs ss' (record { size = count; from = from; to = to; next = j })
    stands e s =
        record {
          first = m;
          holds = rw e g.holds;
          is = g.left ∙ s;
          onward = g.onward;
          within = g.within;
          codes_room = g.codes_room;
          sets_room = ap length e ∙ g.sets_room;
        }

    pub run_over : n ≤ j → Ran qs ws xs n k cs ss (record { size = count; from = from; to = to; next = j })
    run_over l = stands refl (rw (segment_end xs j n l))

    module _ (l : j < n) where
      abbrev i : ℕ
      i = get_or xs j 0

      abbrev v : Member
      v = member_at qs ws i

      usable : Usable qs ws used i
      usable = h.items j (omega (arith, g.onward)) l

      pub next_in : i < length ws
      next_in = in_words j (omega (arith, g.onward)) l

      -- the codes of the member so far
      fits : count ≤ length cs
      fits = omega (arith, g.few, g.codes_room)

      long : length (take count cs) ≡ count
      long = length-take-le count cs fits

      own : take count cs ≡ codes m.path
      own = sym (segment_take cs count fits) ∙ g.holds.codes_are

      pub run_asks : Taking qs ws used i (take count cs) ss
      run_asks = record { usable = usable; few = omega (arith, long, g.few); sets_room = g.sets_room }

      pub run_ends : {ss' : List ℕ} {r : Bool} → Taken qs ws i (take count cs) ss ss' r → r ≡ false → Ran qs ws xs n k cs ss' (record { size = count; from = from; to = to; next = j })
      run_ends t f = stands (t.same f) (rw (nodes_next qs ws xs j n l) (group_ends m v (nodes_at qs ws xs (j + 1) n) unlike))
        where
          d : Differ (codes m.path) (codes v.path)
          d = subst (λ (x : List ℕ). Differ x (codes v.path)) own (t.differ f)

          unlike : alike? m v ≡ false
          unlike = ⊎_elim (λ a. ahead_unlike m v a) (λ a. ahead_unlike' v m a) d

      pub run_turn : {ss' : List ℕ} {r : Bool} {e : Ends} → Taken qs ws i (take count cs) ss ss' r → r ≡ true → Singles ws i e
          → Gathering qs ws xs n k cs ss' count (bit_or from e.from) (bit_or to e.to) (j + 1)
      unfolding set_union
      run_turn {e = e} t y s =
          let c : codes m.path ≡ codes v.path = sym own ∙ t.equal y in
          let a : alike? m v ≡ true = codes_alike m v g.holds.linked usable.suits.linked c in
          let q : codes (merged m v).path ≡ codes m.path = codes_merge m.path v.path in
          record {
            sofar = merged m v;
            holds = record {
              sized = g.holds.sized ∙ sym (length_codes m.path) ∙ ap length (sym q) ∙ length_codes (merged m v).path;
              few = g.few;
              codes_are = g.holds.codes_are ∙ sym q;
              sets_are = (rw long at (t.unions y)) ∙ ap (λ (x : List ℕ). set_unions x (sets_of v.path)) g.holds.sets_are ∙ sym (merged_sets m v g.holds.inferred usable.suits.inferred a);
              from_is = ap₂ bit_or g.holds.from_is (s.from_is ∙ ap singleton (sym (triple_from qs ws i)));
              to_is = ap₂ bit_or g.holds.to_is (s.to_is ∙ ap singleton (sym (triple_to qs ws i)));
              inferred = merge_inferred m.path v.path g.holds.inferred usable.suits.inferred;
              linked = merged_linked m v g.holds.linked usable.suits.linked;
            };
            left = g.left ∙ ap (λ ms. grouped (m ∷ ms)) (nodes_next qs ws xs j n l) ∙ group_takes m v (nodes_at qs ws xs (j + 1) n) a;
            onward = omega (arith, g.onward);
            within = omega arith;
            codes_room = g.codes_room;
            sets_room = t.same_length ∙ g.sets_room;
            few = g.few;
          }
