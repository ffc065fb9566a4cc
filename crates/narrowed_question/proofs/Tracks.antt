-- What is known of the members so far where the reading of a narrowed question stands at a place, and how a field leads on.
-- Assumes nothing.
use Prim.Native.Nat.{ℕ, ◌+◌, ◌<◌, ◌≤◌}
use mathlib.Core.Path.{◌≡◌, refl, ap, ◌∙◌, sym, subst}
use mathlib.Core.Bool.{Bool, true, false, false≢true, cond}
use mathlib.Core.List.{List, [], ◌∷◌, ◌++◌}
use lib.ListN.{length, get_or, length-append}
use lib.Dec.{eqb}
use native.Mathlib.Omega.{arith}
use borrow.Author.Tests.{eqb-true, eqb-false}
use Rattle.theory.specs.PathExpr.{before?}
use Rattle.fields.specs.declared.File.TheVariants as file
use Rattle.theory.specs.Result.{Result, got, refused, onward}
use Rattle.fields.specs.Table.{rows, rows_of, tag_length}
use Rattle.fields.specs.declared.Found.{Found}
use Rattle.fields.specs.Reading.{ends, wrong, field_at, due_rows, kept, read}
use Rattle.symbols.specs.Symbols.{Numbered, arity}
use Rattle.fields.proofs.Fields.{Handed, found, found_one, ended}
use Rattle.symbols.proofs.InPath.{in_path}
use Rattle.symbols.proofs.Symbols.{push_got}
use Rattle.fields.proofs.ReaderLoop.{Going, going_start, going_ends, going_wrong, handed_refused, handed_more}
use Rattle.narrowed_question.specs.declared.Standing.{Standing}
use Rattle.narrowed_question.specs.declared.Standing.TheVariants.{Head, Between, Within}
use Rattle.narrowed_question.specs.Form.{Flat, flat, order_codes, nothing, opens, symbol, last, due, judge, Gathered, gathered, narrowed_format, narrowed_form}
use Rattle.narrowed_question.specs.Internal.{BodyReady, Able}
use Rattle.narrowed_question.proofs.Moves.{count_got, open_got, symbol_got, grown_more, grown_last, grown_not_nothing, grown_not_opens}

abbrev pub Holds : Standing → List ℕ → List Flat → List Numbered → Type 0
Holds Head P ms xs = (P ≡ []) × (ms ≡ []) × (xs ≡ [])
Holds (Between l) P ms xs = (length ms + l ≤ 128) × (xs ≡ [])
Holds (Within l p q) P ms xs = (length ms + l < 128) × (length xs + q.left ≤ 48) × (q.depth ≤ length xs) × (0 < q.left)

pub record Tracks (s : List ℕ) (st : Standing) (at : ℕ) (P : List ℕ) (ms : List Flat) (f t : ℕ) (xs : List Numbered) : Type 0 where
  pub going : Going narrowed_form s (read narrowed_form s) (st, gathered P ms f t xs) at
  pub holds : Holds st P ms xs

pub tracks_start : (s : List ℕ) → Tracks s Head 0 [] [] 0 0 []
tracks_start s = record { going = going_start narrowed_form s; holds = (refl, refl, refl) }

-- the number of symbols of the open member
abbrev pub total : Standing → List Numbered → ℕ
total Head xs = 0
total (Between l) xs = 0
total (Within l p q) xs = length xs + q.left

-- what an array has of the open member
abbrev pub open_list : Standing → ℕ → List ℕ
open_list Head v = []
open_list (Between l) v = []
open_list (Within l p q) v = v ∷ []

abbrev pub Shut : Standing → Type 0
Shut st = (v : ℕ) → open_list st v ≡ []

abbrev pub Opened : Standing → Type 0
Opened st = (v : ℕ) → open_list st v ≡ v ∷ []

-- a field that was handed out is ready to be judged
pub field_ready : (s : List ℕ) (at : ℕ) (fd : Found) (st : Standing) → Able st → Handed (due st) s at fd → BodyReady st fd.tag (length fd.body.now)
unfolding due_rows rows_of rows tag_length
field_ready s at fd Head r h = let g = found (due Head) s at _ _ h.seen in (found_one file.Narrowed (0x41 ∷ []) false false g).1.1
field_ready s at fd (Between l) r h =
    let g = found (due (Between l)) s at _ _ h.seen in
    let (left, o) = found_one file.Narrowed (0x42 ∷ []) (eqb l 0) (eqb l 0) g in
    let z : l ≡ 0 → ⊥ = eqb-false l 0 left in
    (o.1, omega arith)
field_ready s at fd (Within l p q) r h = let g = in_path file.Narrowed q s at _ _ h.seen in (ap length h.body_is ∙ g.long, (g.some, r))

module _ (s : List ℕ) (at : ℕ) (P : List ℕ) (ms : List Flat) (f t : ℕ) (xs : List Numbered) where
  pub tracks_able : (st : Standing) → Tracks s st at P ms f t xs → Able st
  tracks_able Head r = tt
  tracks_able (Between l) r = tt
  tracks_able (Within l p q) r = omega (arith, r.holds.1, r.holds.2)

  pub tracks_ends : (st : Standing) → Tracks s st at P ms f t xs → field_at (due st) s at ≡ ends → (read narrowed_form s ≡ got ms) × (xs ≡ []) × Shut st
  tracks_ends Head r e = absurd (false≢true (ended (due Head) s at e).may)
  tracks_ends (Between l) r e = (going_ends narrowed_form s _ _ at r.going e, r.holds.1, λ v. refl)
  tracks_ends (Within l p q) r e =
      let z : q.left ≡ 0 = eqb-true q.left 0 (ended (due (Within l p q)) s at e).may in
      absurd (omega (arith, r.holds.3))

  pub tracks_wrong : (st : Standing) → Tracks s st at P ms f t xs → (i j : ℕ) → field_at (due st) s at ≡ wrong i j → read narrowed_form s ≡ refused i j
  tracks_wrong st r i j e = going_wrong narrowed_form s _ _ at r.going i j e

  -- a field that was handed out, and what it was judged to be
  module _ (fd : Found) where
    abbrev B : List ℕ
    B = fd.body.now

    abbrev N : ℕ
    N = fd.next

    pub tracks_stop : (st : Standing) → Tracks s st at P ms f t xs → Handed (due st) s at fd → (i j : ℕ) → judge st fd.at N fd.tag B ≡ refused i j → read narrowed_form s ≡ refused i j
    tracks_stop st r e i j h = handed_refused narrowed_form s _ _ at r.going e i j (ap (kept narrowed_format (gathered P ms f t xs)) h)

    -- 41 goes on
    pub tracks_go : (st : Standing) → Tracks s st at P ms f t xs → Handed (due st) s at fd → (st' : Standing) → judge st fd.at N fd.tag B ≡ got (st', nothing)
        → Shut st × Tracks s st' N P ms f t xs × Shut st'
    tracks_go Head r e st' h =
        let (w, _, few) = count_got fd.at B (st', nothing) h in
        let d = r.holds in (
          λ v. refl,
          record {
            going = handed_more narrowed_form s _ _ at r.going e (st', gathered P ms f t xs) (ap (kept narrowed_format (gathered P ms f t xs)) h);
            holds = subst (λ (x : Standing). Holds x P ms xs) w (omega (arith, ap length d.1, few), d.2);
          },
          subst Shut w (λ v. refl),
        )
    tracks_go (Between l) r e st' h = let i = (open_got l fd.at B (st', nothing) h).1 in let z : ◌≡◌ {A = ℕ} 0 1 = cc i in absurd (omega arith)
    tracks_go (Within l p q) r e st' h = let y = symbol_got l p q fd.at N fd.tag B (st', nothing) h in absurd (grown_not_nothing l p y.x y.q' st' y.grown_is)

    -- 42 opens a member
    pub tracks_open : (st : Standing) → Tracks s st at P ms f t xs → Handed (due st) s at fd → (n f' t' : ℕ) (st' : Standing)
        → judge st fd.at N fd.tag B ≡ got (st', opens n f' t') → (length ms < 128) × (xs ≡ []) × Shut st × Tracks s st' N P ms f' t' [] × (total st' [] ≡ n) × Opened st'
    tracks_open Head r e n f' t' st' h = let i = (count_got fd.at B (st', opens n f' t') h).1 in let z : ◌≡◌ {A = ℕ} 0 1 = cc i in absurd (omega arith)
    tracks_open (Between l) r e n f' t' st' h =
        let (w, i, lo, hi) = open_got l fd.at B (st', opens n f' t') h in
        let hn : get_or B 0 0 ≡ n = cc i in
        let y = field_ready s at fd (Between l) tt e in
        let d = r.holds in (
          omega (arith, d.0, y.1),
          d.1,
          λ v. refl,
          record {
            going = handed_more narrowed_form s _ _ at r.going e (st', gathered P ms f' t' []) (ap (kept narrowed_format (gathered P ms f t xs)) h);
            holds = subst (λ (x : Standing). Holds x P ms []) w (omega (arith, d.0, y.1), omega (arith, hi), omega arith, lo);
          },
          sym (ap (λ (x : Standing). total x []) w) ∙ omega (arith, hn),
          subst Opened w (λ v. refl),
        )
    tracks_open (Within l p q) r e n f' t' st' h = let y = symbol_got l p q fd.at N fd.tag B (st', opens n f' t') h in absurd (grown_not_opens l p y.x y.q' st' n f' t' y.grown_is)

    -- a symbol more
    pub tracks_more : (st : Standing) → Tracks s st at P ms f t xs → Handed (due st) s at fd → (x : Numbered) (st' : Standing)
        → judge st fd.at N fd.tag B ≡ got (st', symbol x)
        → (length ms < 128) × (length xs < 48) × Tracks s st' N P ms f t (xs ++ (x ∷ [])) × (total st' (xs ++ (x ∷ [])) ≡ total st xs) × Opened st × Opened st'
    tracks_more Head r e x st' h = let i = (count_got fd.at B (st', symbol x) h).1 in let z : ◌≡◌ {A = ℕ} 0 1 = cc i in absurd (omega arith)
    tracks_more (Between l) r e x st' h = let i = (open_got l fd.at B (st', symbol x) h).1 in let z : ◌≡◌ {A = ℕ} 0 1 = cc i in absurd (omega arith)
    tracks_more (Within l p q) r e x st' h =
        let y = symbol_got l p q fd.at N fd.tag B (st', symbol x) h in
        let (z, w, _) = grown_more l p y.x y.q' st' x y.grown_is in
        let (pl, pd) = push_got q fd.at N (arity y.x.number) y.q' y.push_is in
        let d = r.holds in
        let zs = xs ++ (x ∷ []) in
        let ln = length-append xs (x ∷ []) in
        let same : total (Within l p y.q') zs ≡ length xs + q.left = omega (arith, d.3, pl) in (
          omega (arith, d.0),
          omega (arith, d.1, d.3),
          record {
            going = handed_more narrowed_form s _ _ at r.going e (st', gathered P ms f t zs) (ap (kept narrowed_format (gathered P ms f t xs)) h);
            holds = subst (λ (v : Standing). Holds v P ms zs) w (d.0, omega (arith, d.1, d.3, pl), omega (arith, d.2, pd), omega (arith, z));
          },
          sym (ap (λ (v : Standing). total v zs) w) ∙ same,
          λ v. refl,
          subst Opened w (λ v. refl),
        )

    -- a member's last symbol leads to before the next
    pub last_between : (st : Standing) (x : Numbered) (st' : Standing) (p : ℕ) → judge st fd.at N fd.tag B ≡ got (st', last x p) → (l : ℕ) × (Between l ≡ st')
    last_between Head x st' p h = let i = (count_got fd.at B (st', last x p) h).1 in let z : ◌≡◌ {A = ℕ} 0 1 = cc i in absurd (omega arith)
    last_between (Between l') x st' p h = let i = (open_got l' fd.at B (st', last x p) h).1 in let z : ◌≡◌ {A = ℕ} 0 1 = cc i in absurd (omega arith)
    last_between (Within l' p' q) x st' p h =
        let y = symbol_got l' p' q fd.at N fd.tag B (st', last x p) h in
        (l', (grown_last l' p' y.x y.q' st' x p y.grown_is).1)

    module _ (x : Numbered) (l p : ℕ) where
      abbrev full : List Numbered
      full = xs ++ (x ∷ [])

      fits : (st : Standing) → Tracks s st at P ms f t xs → judge st fd.at N fd.tag B ≡ got (Between l, last x p)
          → (length xs < 48) × (length ms + l < 128) × (total st xs ≡ length xs + 1) × Opened st
      fits Head r h = let i = (count_got fd.at B (Between l, last x p) h).1 in let z : ◌≡◌ {A = ℕ} 0 1 = cc i in absurd (omega arith)
      fits (Between l') r h = let i = (open_got l' fd.at B (Between l, last x p) h).1 in let z : ◌≡◌ {A = ℕ} 0 1 = cc i in absurd (omega arith)
      fits (Within l' p' q) r h =
          let y = symbol_got l' p' q fd.at N fd.tag B (Between l, last x p) h in
          let (z, w, _, _) = grown_last l' p' y.x y.q' (Between l) x p y.grown_is in
          let k : l' ≡ l = cc w in
          let (pl, pd) = push_got q fd.at N (arity y.x.number) y.q' y.push_is in
          let d = r.holds in
          (omega (arith, d.1, d.3), omega (arith, d.0, k), omega (arith, d.3, pl, z), λ v. refl)

      module _ (st : Standing) (r : Tracks s st at P ms f t xs) (e : Handed (due st) s at fd) (h : judge st fd.at N fd.tag B ≡ got (Between l, last x p)) where
        pub last_few : length xs < 48
        last_few = (fits st r h).0

        pub last_members : length ms < 128
        last_members = let g = (fits st r h).1 in omega arith

        pub last_total : total st xs ≡ length xs + 1
        last_total = (fits st r h).2

        pub last_opened : Opened st
        last_opened = (fits st r h).3

        -- what comes of it, by the order
        abbrev ordered : Bool → Result (Standing × Gathered)
        ordered b = onward (λ (g : Gathered). got (Between l, g)) (cond b (got (gathered (order_codes full) (ms ++ (flat f t full ∷ [])) 0 0 [])) (refused 4 p))

        judged_last : narrowed_form.judge (st, gathered P ms f t xs) fd.at N fd.tag B ≡ ordered (before? P (order_codes full))
        judged_last = ap (kept narrowed_format (gathered P ms f t xs)) h

        pub tracks_order : before? P (order_codes full) ≡ false → read narrowed_form s ≡ refused 4 p
        tracks_order b = handed_refused narrowed_form s _ _ at r.going e 4 p (judged_last ∙ ap ordered b)

        pub tracks_done : before? P (order_codes full) ≡ true → Tracks s (Between l) N (order_codes full) (ms ++ (flat f t full ∷ [])) 0 0 []
        tracks_done b =
            let g = fits st r h in
            record {
              going = handed_more narrowed_form s _ _ at r.going e (Between l, gathered (order_codes full) (ms ++ (flat f t full ∷ [])) 0 0 []) (judged_last ∙ ap ordered b);
              holds = (omega (arith, g.1, length-append ms (flat f t full ∷ [])), refl);
            }
