-- "What is built", the profile after an insert and after a remove: who stands in its bands and nodes, that both stay in order, and that no other band
-- comes or goes.
-- Assumes nothing.
use Prim.Native.Nat.{ℕ, ◌≤◌}
use mathlib.Core.Path.{◌≡◌, refl, sym, subst}
use mathlib.Core.Bool.{Bool, not}
use mathlib.Core.Logic.Iff
use mathlib.Core.Logic.{◌↔◌, ◌⊎◌, inl, inr, ⊎_elim, ⊎_map}
use mathlib.Core.List.{List}
use native.Mathlib.Omega.{arith}
use lib.ListN.{length}
use Rattle.rules.specs.HallLine.{Band}
use Rattle.rules.specs.NodesLanesEdges.{Node, node_of, stands_at, is_end_of_some, with_node}
use Rattle.rules.specs.Profile.{Profile, has_number}
use Rattle.rules.specs.Changes.{with_band, with_ends, inserted, nodes_at_ends, without_where, removed}
use Rattle.rules.proofs.Means.{Means, reworded, denied, not_means}
use Rattle.rules.proofs.Lists.{In, Some, Each, in_kept, ascends_keep, length_keep, in_placed, placed_ascends}
use Rattle.rules.proofs.NodesLanesEdges.{NodeAt, NoNodeAt, stands_at_means, EndOf, is_end_of_some_means, Asc, in_with_node, at_with_node, with_node_ascends}
use Rattle.rules.proofs.Profile.{has_number_means, SameBut, NumbersAsc}

-- ---- a band among the others

pub in_with_band : (b c : Band) (bs : List Band) → In c (with_band b bs) ↔ ((c ≡ b) ⊎ In c bs)
unfolding with_band
in_with_band b c bs = in_placed (λ d. d.number) b c bs

-- numbers stay in order where the number is not live
pub with_band_ascends : (b : Band) (c : ℕ) (bs : List Band) → c ≤ b.number → Each (λ d. d.number ≡ b.number → ⊥) bs → NumbersAsc c bs
    → NumbersAsc c (with_band b bs)
unfolding with_band
with_band_ascends b c bs l h a = placed_ascends (λ d. d.number) b c bs l h a

-- ---- nodes at a band's ends

-- the node is made where none stood: at the low end with the low level, at a high end that is another key with the high level
abbrev pub MadeAtEnd : Band → ℕ → ℕ → List Node → Node → Type 0
MadeAtEnd b lo hi ns n =
    ((n ≡ node_of b.low lo) × NoNodeAt b.low ns)
    ⊎ ((n ≡ node_of b.high hi) × (b.high ≡ b.low → ⊥) × NoNodeAt b.high ns)

module _ (b : Band) (lo hi : ℕ) (ns : List Node) where
  -- afterwards a node stands at both ends and wherever one stood
  pub at_with_ends : (k : ℕ) → NodeAt k (with_ends b lo hi ns) ↔ (EndOf k b ⊎ NodeAt k ns)
  unfolding with_ends
  at_with_ends k =
      let e = at_with_node b.low lo ns k in
      Iff.trans (at_with_node b.high hi (with_node b.low lo ns) k) (
        ⊎_elim (λ p. inl (inr p)) (λ s. ⊎_map inl (λ t. t) (e.0 s)),
        ⊎_elim (⊎_elim (λ p. inr (e.1 (inl p))) inl) (λ t. inr (e.1 (inr t))),
      )

  pub stands_with_ends : (k : ℕ) → Means (stands_at k (with_ends b lo hi ns)) (EndOf k b ⊎ NodeAt k ns)
  stands_with_ends k = reworded (stands_at_means k (with_ends b lo hi ns)) (at_with_ends k).0 (at_with_ends k).1

  -- none stands at the high end once the low end has its node
  none_high : NoNodeAt b.high (with_node b.low lo ns) ↔ ((b.high ≡ b.low → ⊥) × NoNodeAt b.high ns)
  none_high =
      let e = at_with_node b.low lo ns b.high in (
        λ h. let off : NodeAt b.high (with_node b.low lo ns) → ⊥ = λ s. h s.0 s.1 s.2 in
            (λ p. off (e.1 (inl p)), λ n i p. off (e.1 (inr (n, i, p)))),
        λ h n i p. ⊎_elim h.0 (λ s. h.1 s.0 s.1 s.2) (e.0 (n, i, p)),
      )

  -- a node that stood, or one made for an end
  pub in_with_ends : (n : Node) → In n (with_ends b lo hi ns) ↔ (In n ns ⊎ MadeAtEnd b lo hi ns n)
  unfolding with_ends
  in_with_ends n =
      let e = in_with_node b.low lo ns n in
      Iff.trans (in_with_node b.high hi (with_node b.low lo ns) n) (
        ⊎_elim (λ i. ⊎_map (λ j. j) inl (e.0 i)) (λ m. let f = none_high.0 m.1 in inr (inr (m.0, f.0, f.1))),
        ⊎_elim (λ i. inl (e.1 (inl i))) (⊎_elim (λ m. inl (e.1 (inr m))) (λ m. inr (m.0, none_high.1 (m.1, m.2)))),
      )

  pub with_ends_ascend : Asc 0 ns → Asc 0 (with_ends b lo hi ns)
  unfolding with_ends
  with_ends_ascend a = with_node_ascends b.high hi (with_node b.low lo ns) (with_node_ascends b.low lo ns a)

-- ---- the profile after an insert

module _ (p : Profile) (b : Band) (lo hi : ℕ) where
  pub inserted_nodes : (inserted p b lo hi).nodes ≡ with_ends b lo hi p.nodes
  unfolding inserted
  inserted_nodes = refl

  pub in_inserted_bands : (c : Band) → In c (inserted p b lo hi).bands ↔ ((c ≡ b) ⊎ In c p.bands)
  unfolding inserted
  in_inserted_bands c = in_with_band b c p.bands

  pub inserted_bands_ascend : Each (λ c. c.number ≡ b.number → ⊥) p.bands → NumbersAsc 0 p.bands
      → NumbersAsc 0 (inserted p b lo hi).bands
  unfolding inserted
  inserted_bands_ascend h a = with_band_ascends b 0 p.bands (omega arith) h a

  -- no band comes or goes that is not so, whatever the inserted band is
  pub insert_keeps_others : (P : Band → Type 0) → P b → SameBut P p (inserted p b lo hi)
  insert_keeps_others P h c off =
      (λ j. (in_inserted_bands c).1 (inr j), λ i. ⊎_elim (λ e. absurd (off (subst P (sym e) h))) (λ j. j) ((in_inserted_bands c).0 i))

-- ---- the profile after a remove

pub in_nodes_at_ends : (bs : List Band) (n : Node) (ns : List Node) → In n (nodes_at_ends bs ns) ↔ (In n ns × Some (EndOf n.key) bs)
unfolding nodes_at_ends
in_nodes_at_ends bs n ns = in_kept (λ m. is_end_of_some_means bs m.key) n ns

-- for any test of bands: a remove is the case of one number
module _ (f : Band → Bool) (p : Profile) where
  pub in_bands_left : {P : Band → Type 0} → ((b : Band) → Means (f b) (P b))
      → (b : Band) → In b (without_where f p).bands ↔ (In b p.bands × (P b → ⊥))
  unfolding without_where
  in_bands_left m b = in_kept (λ c. not_means (denied (m c))) b p.bands

  -- a node is left exactly when it is an end of a band that is left
  pub in_nodes_left : (n : Node) → In n (without_where f p).nodes ↔ (In n p.nodes × Some (EndOf n.key) (without_where f p).bands)
  unfolding without_where
  in_nodes_left n = in_nodes_at_ends (without_where f p).bands n p.nodes

  pub bands_left_ascend : (c : ℕ) → NumbersAsc c p.bands → NumbersAsc c (without_where f p).bands
  unfolding without_where
  bands_left_ascend c a = ascends_keep (λ b. b.number) (λ b. not (f b)) c p.bands a

  pub nodes_left_ascend : (c : ℕ) → Asc c p.nodes → Asc c (without_where f p).nodes
  unfolding without_where nodes_at_ends
  nodes_left_ascend c a = ascends_keep (λ n. n.key) (λ n. is_end_of_some (without_where f p).bands n.key) c p.nodes a

  -- there are no more nodes than before
  pub nodes_left_no_more : length (without_where f p).nodes ≤ length p.nodes
  unfolding without_where nodes_at_ends
  nodes_left_no_more = length_keep _ p.nodes

  -- no band comes or goes that is not so, where those that pass are
  pub without_keeps_others : {Q : Band → Type 0} → ((b : Band) → Means (f b) (Q b)) → (P : Band → Type 0) → Each (λ b. Q b → P b) p.bands
      → SameBut P p (without_where f p)
  without_keeps_others m P h b off = (λ j. (in_bands_left m b).1 (j, λ q. off (h b j q)), λ i. ((in_bands_left m b).0 i).0)

module _ (p : Profile) (number : ℕ) where
  -- a band of another number
  pub in_removed_bands : (b : Band) → In b (removed p number).bands ↔ (In b p.bands × (b.number ≡ number → ⊥))
  unfolding removed
  in_removed_bands b = in_bands_left (has_number number) p (has_number_means number) b

  -- a node that is an end of a band that is left
  pub in_removed_nodes : (n : Node) → In n (removed p number).nodes ↔ (In n p.nodes × Some (EndOf n.key) (removed p number).bands)
  unfolding removed
  in_removed_nodes n = in_nodes_left (has_number number) p n

  pub removed_bands_ascend : (c : ℕ) → NumbersAsc c p.bands → NumbersAsc c (removed p number).bands
  unfolding removed
  removed_bands_ascend = bands_left_ascend (has_number number) p

  pub removed_nodes_ascend : (c : ℕ) → Asc c p.nodes → Asc c (removed p number).nodes
  unfolding removed
  removed_nodes_ascend = nodes_left_ascend (has_number number) p

  -- after a remove there are no more nodes than before
  pub removed_nodes_no_more : length (removed p number).nodes ≤ length p.nodes
  unfolding removed
  removed_nodes_no_more = nodes_left_no_more (has_number number) p

  -- no band comes or goes that is not so, whatever the bands of the number are
  pub remove_keeps_others : (P : Band → Type 0) → Each (λ b. b.number ≡ number → P b) p.bands → SameBut P p (removed p number)
  unfolding removed
  remove_keeps_others = without_keeps_others (has_number number) p (has_number_means number)
