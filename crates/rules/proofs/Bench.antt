-- P1 to P12 hold: the laws turn the figures that were computed into what each row says of the rules. Assumes nothing.
use mathlib.Core.Path.{◌≡◌, refl, sym, ◌∙◌, ap}
use mathlib.Core.Logic.{◌⊎◌, inl, inr, ⊎_elim, ◌↔◌}
use mathlib.Core.Bool.{Bool, true, false, So}
use mathlib.Core.List.{List, [], ◌∷◌, ◌++◌}
use Prim.Native.Nat.{ℕ, zero, suc, ◌-◌, ◌≤◌, ◌<◌}
use native.Mathlib.Omega.{arith}
use native.Mathlib.Decide.{ℕ_discrete}
use lib.Dec.{eqb}
use lib.ListN.{length, get_or, get_or-append, length-append}
use lib.Seq.{get_or_at}
use borrow.Author.Tests.{eq-eqb, ne_eqb, eqb-true}
use Rattle.rules.specs.declared.Corner.{Corner}
use Rattle.rules.specs.declared.Shape.{Shape}
use Rattle.rules.specs.declared.Rectangle.{Rectangle}
use Rattle.rules.specs.declared.Design.{Design}
use Rattle.rules.specs.Chip.{corner, shape}
use Rattle.rules.specs.Tree.{Tree, leaf, cut, position}
use Rattle.rules.specs.Slot.{Stores, ListsAt, CornerOn}
use Rattle.rules.specs.Design.{nodes, node_at, root, root_slot, SuitsOf, ListsOf, given_for, OwnLists, width_of, height_of}
use Rattle.rules.specs.Bench.{Example, lists, contains, slot_is, pairs_to, plans_to, has_none, reads, OneOf, PairsTo, Says, AllSay, table}
use Rattle.rules.proofs.Searching.{test-iffs}
use Rattle.rules.proofs.Standing.{Part}
use Rattle.rules.proofs.Nodes.{part_node, last_node}
use Rattle.rules.proofs.Suiting.{design_decides}
use Rattle.rules.proofs.Listing.{same_shape, same_list, list_bytes, list_unique}
use Rattle.rules.proofs.Pairing.{pairings_bytes}
use Rattle.rules.proofs.Limits.{every_row}
use Rattle.rules.proofs.Agreeing.{Agree, all_rows, agree_back, chosen_agree, paired_agree, down_agree}
use Rattle.rules.proofs.Choosing.{chooses_none, chooses_this}
use Rattle.rules.proofs.Floorplans.{goes_laid, goes_down_lem, no_placement, corner_zero}
use Rattle.rules.proofs.Figures.{widths_rise, tab, pick, bytes_of, tree_list, paired_list, computed, Pairs, Computes, AllCompute, table_computes}

-- the list of a function's values
length_tab : {A : Type 0} (n : ℕ) (f : ℕ → A) → length (tab n f) ≡ n
unfolding tab
length_tab zero f = refl
length_tab (suc n) f = let e = length_tab n f in simp length-append (omega arith)

tab_at : {A : Type 0} (n : ℕ) (f : ℕ → A) (x : A) (j : ℕ) → j < n → get_or (tab n f) j x ≡ f j
unfolding tab
tab_at zero f x j h = absurd (omega arith)
tab_at (suc n) f x j h = go (ℕ_discrete j n) (tab_at n f x j)
  where
    go : Dec (j ≡ n) → (j < n → get_or (tab n f) j x ≡ f j) → get_or (tab n f ++ (f n ∷ [])) j x ≡ f j
    go (yes e) ih = rw e (get_or_at (tab n f) (f n) [] x n (length_tab n f))
    go (no e) ih = let l = length_tab n f in get_or-append (tab n f) (f n ∷ []) x j (omega arith) ∙ ih (omega arith)

-- bytes that were computed are the figures
tab_same : {A : Type 0} (n : ℕ) (f : ℕ → A) (l : List A) (x : A) → tab n f ≡ l → (j : ℕ) → j < n → f j ≡ get_or l j x
tab_same n f l x e j h = sym (tab_at n f x j h) ∙ ap (λ m. get_or m j x) e

-- a slot of shapes whose widths rise holds just these
one_of_stored : (W w : ℕ) (ss : List Shape) → So (widths_rise W w ss) → (s : Shape) → OneOf s ss
    → (w < s.w.0) × (s.w.0 ≤ W) × (0 < s.h.0) × (bytes_of ss (s.w.0 - 1) ≡ s.h.0)
unfolding widths_rise OneOf bytes_of
one_of_stored W w [] t s z = absurd z
one_of_stored W w (o ∷ ss) t s z = let (((p, q), r), u) = simp test-iffs at t in ⊎_elim (first p q r) (later p (one_of_stored W o.w.0 ss u s)) z
  where
    first : w < o.w.0 → o.w.0 ≤ W → 0 < o.h.0 → s ≡ o
        → (w < s.w.0) × (s.w.0 ≤ W) × (0 < s.h.0) × (pick (eqb o.w.0 (suc (s.w.0 - 1))) o.h.0 (bytes_of ss (s.w.0 - 1)) ≡ s.h.0)
    first p q r e = rw e (p, q, r, rw (eq-eqb o.w.0 (suc (o.w.0 - 1)) (omega arith)))

    later : w < o.w.0 → (OneOf s ss → (o.w.0 < s.w.0) × (s.w.0 ≤ W) × (0 < s.h.0) × (bytes_of ss (s.w.0 - 1) ≡ s.h.0)) → OneOf s ss
        → (w < s.w.0) × (s.w.0 ≤ W) × (0 < s.h.0) × (pick (eqb o.w.0 (suc (s.w.0 - 1))) o.h.0 (bytes_of ss (s.w.0 - 1)) ≡ s.h.0)
    later p ih z = let (a, b, c, e) = ih z in (omega arith, b, c, rw (ne_eqb o.w.0 (suc (s.w.0 - 1)) (λ q. absurd (omega arith))) e)

stored_one_of : (ss : List Shape) (j h : ℕ) → 1 ≤ h → bytes_of ss j ≡ h → OneOf (shape (suc j) h) ss
unfolding OneOf bytes_of
stored_one_of [] j h p e = absurd (omega arith)
stored_one_of (o ∷ ss) j h p e = go (eqb o.w.0 (suc j)) refl e (stored_one_of ss j h p)
  where
    go : (b : Bool) → eqb o.w.0 (suc j) ≡ b → pick b o.h.0 (bytes_of ss j) ≡ h → (bytes_of ss j ≡ h → OneOf (shape (suc j) h) ss)
        → (shape (suc j) h ≡ o) ⊎ OneOf (shape (suc j) h) ss
    go true q e ih = inl (same_shape _ o (sym (eqb-true o.w.0 (suc j) q)) (sym e))
    go false q e ih = inr (ih e)

stores_one_of : (W : ℕ) (ss : List Shape) → So (widths_rise W 0 ss) → (s : Shape) → Stores W (bytes_of ss) s ↔ OneOf s ss
stores_one_of W ss t s = (
  λ z. let p = z.wide in let q : shape (suc (s.w.0 - 1)) s.h.0 ≡ s = same_shape _ s (omega arith) refl in
      rw q at (stored_one_of ss (s.w.0 - 1) s.h.0 z.high z.byte),
  λ z. let (a, b, c, e) = one_of_stored W 0 ss t s z in record { wide = a; within = b; high = c; byte = e },
)

module _ (d : Design) where
  computed_own : OwnLists d (computed d)
  unfolding computed tree_list
  computed_own t h c on = list_bytes (design_decides d) (node_at d t) c

  -- whatever slots are the tree's lists agree with the computed ones
  lists_agree : (t : Tree) (g : Corner → ℕ → ℕ) → ListsAt (width_of d) (height_of d) (height_of d) (ListsOf d) g t → Agree (width_of d) (height_of d) (tree_list d t) g
  unfolding tree_list
  lists_agree t g l = record { at = λ c on. list_unique (width_of d) (tree_list d t c) (g c) (list_bytes (design_decides d) t c) (l c on) }

  lists_row : (c : Corner) (ss : List Shape) → Computes (lists d c ss) → Says (lists d c ss)
  unfolding Computes Says tree_list
  lists_row c ss (t, e) s =
      let W = width_of d in let l = list_bytes (design_decides d) (root d) c in
      let same : (j : ℕ) → j < W → tree_list d (root d) c j ≡ bytes_of ss j = λ j h. tab_same W (tree_list d (root d) c) _ 0 e j h ∙ tab_at W (bytes_of ss) 0 j h in
      let m = same_list W (tree_list d (root d) c) (bytes_of ss) same (λ s. (λ z. z, λ z. z)) l s in let o = stores_one_of W ss t s in
      (λ z. o.0 (m.1 z), λ z. m.0 (o.1 z))

  slot_row : (start : ℕ) (bytes : List ℕ) → Computes (slot_is d start bytes) → Says (slot_is d start bytes)
  unfolding Computes Says tree_list
  slot_row start bytes (a, e) = (
    a,
    same_list (width_of d) (tree_list d (root d) (corner 0 0)) (λ j. get_or bytes j 0) (tab_same (width_of d) _ bytes 0 e) (λ s. (λ z. z, λ z. z))
        (list_bytes (design_decides d) (root d) (corner 0 0)),
  )

  pairs_row : (bytes : List ℕ) (t : Tree) → Pairs d bytes t → CornerOn (width_of d) (height_of d) (corner 0 0) → PairsTo d bytes t
  unfolding Pairs paired_list
  pairs_row bytes (leaf t k) e on = e
  pairs_row bytes (cut t k l r) e on = λ L R x y.
      let W = width_of d in let H = height_of d in let x' = lists_agree l L x in let y' = lists_agree r R y in
      same_list W (paired_list d k l r) (λ j. get_or bytes j 0) (tab_same W _ bytes 0 e)
      (λ s. (paired_agree W H k x' y' (corner 0 0) on s, paired_agree W H k (agree_back x') (agree_back y') (corner 0 0) on s))
      (pairings_bytes W H k (tree_list d l) (tree_list d r) (corner 0 0))

  plans_row : (s : Shape) (rs : List Rectangle) → Computes (plans_to d s rs) → Says (plans_to d s rs)
  unfolding Computes Says computed
  plans_row s rs (lawful, w, h, m, e) slots own =
      let n = simp test-iffs at m in
      let W = width_of d in let H = height_of d in
      let node-agrees : (t : ℕ) → t < nodes d → Agree W H (computed d t) (slots t) =
      λ t b. lists_agree (node_at d t) (slots t) (all_rows (every_row d) (ListsOf d) (slots t) (node_at d t) (own t b)) in
      let agree : (u : Tree) → Part u (root d) → Agree W H (computed d (position u)) (slots (position u)) =
      λ u q. let (b, i) = part_node d lawful u q in node-agrees (position u) b in
      let root-agree : (j : ℕ) → j < W → root_slot d (computed d) j ≡ root_slot d slots j = λ j k.
      (node-agrees (nodes d - 1) (last_node d lawful)).at (corner 0 0) (corner_zero d lawful) j k in
      let ch = chosen_agree W (root_slot d (computed d)) (root_slot d slots) root-agree s (chooses_this W (root_slot d (computed d)) s n.0 w h) in (
        ch,
        goes_down_lem d lawful slots own s ch.stored,
        λ p z k b.
            let l = (goes_laid d lawful (computed d) s p
            (down_agree W H (SuitsOf d) (given_for d) slots (computed d) (root d) (λ u q. agree_back (agree u q)) (corner 0 0) (corner_zero d lawful) s p z)).1 in
            l k (omega arith) ∙ tab_same (length rs) _ rs _ e k b,
      )

  none_row : Computes (has_none d) → Says (has_none d)
  unfolding Computes Says
  none_row (lawful, e) = (no_placement d lawful (computed d) computed_own).0 (chooses_none (width_of d) (root_slot d (computed d)) e)

-- what is computed for a row is what it says
row_holds : (e : Example) → Computes e → Says e
unfolding Computes Says
row_holds (lists d c ss) z = lists_row d c ss z
row_holds (contains d r n) z = z
row_holds (slot_is d start bytes) z = slot_row d start bytes z
row_holds (pairs_to d bytes) (lawful, z) = pairs_row d bytes (root d) z (corner_zero d lawful)
row_holds (plans_to d s rs) z = plans_row d s rs z
row_holds (has_none d) z = none_row d z
row_holds (reads s t) z = z

all_hold : (es : List Example) → AllCompute es → AllSay es
unfolding AllCompute AllSay
all_hold [] z = tt
all_hold (e ∷ es) z = (row_holds e z.0, all_hold es z.1)

-- P1 to P12
pub table_holds : AllSay table
table_holds = all_hold table table_computes
