-- The corners of a cut node one after the other, and its lines: what is written to its own slots leaves its children's
-- as they are, so each corner gets the slot that the bytes at the start ask for. Assumes nothing.
use mathlib.Core.Path.{◌≡◌, refl, sym, ◌∙◌}
use mathlib.Core.Logic.{◌⊎◌, inl, inr, ⊎_elim}
use mathlib.Core.Bool.{Bool, So}
use mathlib.Core.List.{List}
use Prim.Native.Nat.{ℕ, suc, ◌+◌, ◌-◌, ◌≤◌, ◌<◌}
use native.Mathlib.Omega.{arith}
use native.Mathlib.Decide.{ℕ_discrete}
use Rattle.rules.specs.declared.Direction.{Direction}
use Rattle.rules.specs.declared.Direction.TheVariants.{Vertical, Horizontal}
use Rattle.rules.specs.declared.Corner.{Corner}
use Rattle.rules.specs.Slot.{slot, slot_start, CornerOn}
use Rattle.rules.proofs.Test.{across}
use Rattle.rules.proofs.Searching.{know, test-iffs}
use Rattle.rules.proofs.Working.{slots_apart}
use Rattle.rules.proofs.Listing.{same_list, list_unique}
use Rattle.rules.proofs.Pairing.{pairings_bytes}
use Rattle.rules.proofs.Agreeing.{Agree, on_more_rows, agree_on, agree_back, paired_agree}
use Rattle.slots.specs.declared.Board.{Board}
use Rattle.slots.specs.Written.{SlotIs, PartIs}
use Rattle.slots.specs.Lent.{OnBoard, ListedOn, slots_on, SlotOn, PartOn, NodeOn}
use Rattle.slots.proofs.Writing.{SameCorner, same_corner, one_done, all_done}
use Rattle.cuts.specs.declared.Cut.{Cut}
use Rattle.cuts.specs.Cut.{paired_slot, corner_at, line_of, place_of, lines, places, line_top, held_top, LineFilled, least_top, laid_slot, on_line, before_line}
use Rattle.cuts.proofs.Least.{least_same}
use Rattle.cuts.proofs.Tops.{laid_paired, filled_tops}

module _ {W H t : ℕ} {f : Corner → ℕ → ℕ} {done : Corner → Bool} {before after : List ℕ} (p : PartIs W H t f done before after) where
  -- another node's slots stay
  pub node_kept : (t' : ℕ) → (t ≡ t' → ⊥) → Agree W H (slot W H after t') (slot W H before t')
  unfolding slot
  node_kept t' o = record {
    at =
        λ c on j h. p.outside (slot_start W H t' c + j) (λ c' on' s k l e. o (slots_apart W H t t' k j c' c on' on l h e).0);
  }

  -- and so do this node's at other corners
  corner_kept : (c : Corner) → CornerOn W H c → (So (done c) → ⊥) → (j : ℕ) → j < W
      → slot W H after t c j ≡ slot W H before t c j
  unfolding slot
  corner_kept c on o j h = p.outside (slot_start W H t c + j) (λ c' on' s k l e.
      let (_, x, y, _) = slots_apart W H t t k j c' c on' on l h e in
      let q : c' ≡ c = same_corner (record { column = x; row = y }) in o (rw q at s))

-- some corners more, written from the bytes as they then stood
pub part_then : {W H t : ℕ} {f f' : Corner → ℕ → ℕ} {done done' : Corner → Bool} {before mid after : List ℕ} (all : Corner → Bool)
    → PartIs W H t f done before mid → PartIs W H t f' done' mid after
    → ((c : Corner) → CornerOn W H c → So (all c) → So (done c) ⊎ So (done' c))
    → ((c : Corner) → So (done c) → So (all c)) → ((c : Corner) → So (done' c) → So (all c))
    → ((c : Corner) → CornerOn W H c → (j : ℕ) → j < W → f' c j ≡ f c j) → PartIs W H t f all before after
part_then {W} {H} {t} {f} {f'} {done} {done'} {before} {mid} {after} all p q out in' in'' same = record {
  long = q.long ∙ p.long;
  inside = λ c on s j h. ⊎_elim (λ a. q.inside c on a j h ∙ same c on j h)
      (λ a. corner_kept q c on a j h ∙ p.inside c on (⊎_elim (λ b. b) (λ b. absurd (a b)) (out c on s)) j h) (know (done' c));
  outside = λ i h. q.outside i (λ c on s. h c on (in'' c s)) ∙ p.outside i (λ c on s. h c on (in' c s));
}

-- a cut's slot hangs on its children's bytes alone
pub paired_same : (cut : Cut) → let B = cut.board in B.height.0 ≤ B.listed.0 → (work work' : List ℕ)
    → Agree B.width.0 B.listed.0 (slots_on B work cut.left) (slots_on B work' cut.left)
    → Agree B.width.0 B.listed.0 (slots_on B work cut.right) (slots_on B work' cut.right) → (c : Corner) → OnBoard B c → (j : ℕ) → j < B.width.0
    → paired_slot cut work c j ≡ paired_slot cut work' c j
unfolding paired_slot
paired_same cut every work work' l r c on =
    let B = cut.board in let W = B.width.0 in let H = B.height.0 in let d = cut.direction in let l' = agree_on every l in let r' = agree_on every r in
    list_unique W (paired_slot cut work c) (paired_slot cut work' c)
    (same_list W (paired_slot cut work c) (paired_slot cut work c) (λ j h. refl) (λ s. (paired_agree W H d l' r' c on s, paired_agree W H d (agree_back l') (agree_back r') c on s))
    (pairings_bytes W H d (slots_on B work cut.left) (slots_on B work cut.right) c))
    (pairings_bytes W H d (slots_on B work' cut.left) (slots_on B work' cut.right) c)

-- a corner is at its place on its line
at_place : (d : Direction) (on p : ℕ) → (line_of d (corner_at d on p) ≡ on) × (place_of d (corner_at d on p) ≡ p)
at_place Vertical on p = (refl, refl)
at_place Horizontal on p = (refl, refl)

same_place : (d : Direction) (on p : ℕ) (c : Corner) → line_of d c ≡ on → place_of d c ≡ p
    → SameCorner (corner_at d on p) c
same_place Vertical on p c e h = record { column = sym h; row = sym e }
same_place Horizontal on p c e h = record { column = sym e; row = sym h }

on_line_lem : (d : Direction) (W H : ℕ) (c : Corner) → CornerOn W H c
    → (line_of d c < across d H W) × (place_of d c < across d W H)
on_line_lem Vertical W H c on = (on.row, on.column)
on_line_lem Horizontal W H c on = (on.column, on.row)

-- the slot that is laid at a corner of the line, from the bytes as they now stand, is the one that the bytes at the
-- start ask for
pub slot_laid : (cut : Cut) (on p : ℕ) (start work : List ℕ) {c : Corner} {after line : List ℕ}
    → let B = cut.board in let d = cut.direction in LineFilled d B (slots_on B start cut.right) on (places d B) line
    → c ≡ corner_at d on p → OnBoard B c → ListedOn B c
    → Agree B.width.0 B.listed.0 (slots_on B work cut.left) (slots_on B start cut.left)
    → SlotOn B cut.t c (laid_slot d B (held_top line) c (slots_on B work cut.left c)) work after
    → SlotOn B cut.t c (paired_slot cut start c) work after
unfolding paired_slot laid_slot least_top
slot_laid cut on p start work {c} {after} {line} l e o o' a z = record { long = z.long; inside = λ j h. z.inside j h ∙ is j; outside = z.outside }
  where
    l' : LineFilled cut.direction cut.board (slots_on cut.board start cut.right) (line_of cut.direction c) (places cut.direction cut.board) line
    l' = let q : line_of cut.direction c ≡ on = rw e (at_place cut.direction on p).0 in rw q l

    -- the least top side before the right side b, of all left shapes
    tops_are : (b : ℕ) → let tops = λ (held : ℕ → ℕ → ℕ) (slots : List ℕ). least_top cut.direction cut.board held c (slots_on cut.board slots cut.left c) (cut.board.width.0 - c.x.0) b in
        tops (held_top line) work ≡ tops (line_top cut.direction cut.board (slots_on cut.board start cut.right) (line_of cut.direction c)) start
    tops_are b =
        least_same _ _ _ (cut.board.width.0 - c.x.0) (λ i k. rw (a.at c o' i (omega arith)))
        ∙ filled_tops cut.direction cut.board (slots_on cut.board start cut.right) c line l' (slots_on cut.board start cut.left c) (cut.board.width.0 - c.x.0) b

    is : (j : ℕ) → laid_slot cut.direction cut.board (held_top line) c (slots_on cut.board work cut.left c) j ≡ paired_slot cut start c j
    is j =
        let r = o.row in
        rw (tops_are (c.x.0 + j), tops_are (c.x.0 + suc j))
        (laid_paired cut.direction cut.board (slots_on cut.board start cut.left) (slots_on cut.board start cut.right) c j (omega arith))

-- the corners of a line one after the other
module _ (d : Direction) (W H t on : ℕ) (f : Corner → ℕ → ℕ) where
  pub no_place : (before : List ℕ) → PartIs W H t f (on_line d on 0) before before
  no_place before = record { long = refl; inside = λ c _ s. let h = simp test-iffs at s in absurd (omega arith); outside = λ i h. refl }

  pub place_done : (p : ℕ) {before mid after : List ℕ} {c : Corner} → c ≡ corner_at d on p → CornerOn W H c
      → PartIs W H t f (on_line d on p) before mid
      → SlotIs W H t c (f c) mid after → PartIs W H t f (on_line d on (p + 1)) before after
  place_done p {before} {mid} {after} {c} e o q z =
      one_done W H t f (on_line d on p) (on_line d on (p + 1)) before mid after c o
      (λ c' _ s. let (a, b) = simp test-iffs at s in out c' a b (ℕ_discrete (place_of d c') p))
      (λ c' _ s. let (a, b) = simp test-iffs at s in simp test-iffs (a, omega arith))
      (let a : (line_of d c ≡ on) × (place_of d c ≡ p) = rw e (at_place d on p) in simp test-iffs (a.0, omega arith)) q z
    where
      out : (c' : Corner) → line_of d c' ≡ on → place_of d c' < p + 1 → Dec (place_of d c' ≡ p)
          → So (on_line d on p c') ⊎ SameCorner c c'
      out c' a b (yes h) = inr (rw e (same_place d on p c' a h))
      out c' a b (no h) = inl (simp test-iffs (a, omega arith))

-- the lines one after the other
module _ (cut : Cut) (start : List ℕ) (chip : cut.board.listed.0 ≤ cut.board.height.0) where
  abbrev d : Direction
  d = cut.direction

  abbrev B : Board
  B = cut.board

  abbrev t : ℕ
  t = cut.t

  abbrev slots : Corner → ℕ → ℕ
  slots = paired_slot cut start

  pub no_line : PartOn B t slots (before_line d 0) start start
  no_line = record { long = refl; inside = λ c _ s. let h = simp test-iffs at s in absurd (omega arith); outside = λ i h. refl }

  pub line_done : (on : ℕ) {mid after : List ℕ} → B.height.0 ≤ B.listed.0 → cut.left < t → cut.right < t → PartOn B t slots (before_line d on) start mid
      → PartOn B t (paired_slot cut mid) (on_line d on (places d B)) mid after → PartOn B t slots (before_line d (on + 1)) start after
  line_done on {mid} {after} every l r p q =
      part_then (before_line d (on + 1)) p q (λ c o s. let h = simp test-iffs at s in out c o h (ℕ_discrete (line_of d c) on))
      (λ c s. let h = simp test-iffs at s in simp test-iffs (omega arith)) (λ c s. let (a, b) = simp test-iffs at s in simp test-iffs (omega arith))
      (λ c o. paired_same cut every mid start (node_kept p cut.left (λ e. omega arith)) (node_kept p cut.right (λ e. omega arith)) c (on_more_rows chip o))
    where
      out : (c : Corner) → ListedOn B c → line_of d c < on + 1 → Dec (line_of d c ≡ on) → So (before_line d on c) ⊎ So (on_line d on (places d B) c)
      out c o h (yes e) = inr (simp test-iffs (e, (on_line_lem d B.width.0 B.height.0 c (on_more_rows chip o)).1))
      out c o h (no e) = inl (simp test-iffs (omega arith))

  pub lines_done : {after : List ℕ} → PartOn B t slots (before_line d (lines d B)) start after → NodeOn B t slots start after
  lines_done {after} p =
      all_done B.width.0 B.listed.0 t slots (before_line d (lines d B)) start after
      (λ c o. simp test-iffs (on_line_lem d B.width.0 B.height.0 c (on_more_rows chip o)).0) p
