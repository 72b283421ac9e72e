-- When a stab and each readout say no, on any memory, number by number in plain words (the records `StabGives` and its like of the rules); and which
-- edge and node readouts are refused by 13 on sound memory, said of its nodes.
-- Assumes nothing.
use Prim.Native.Nat.{ℕ, ◌≤◌, ◌<◌}
use mathlib.Core.Path.{◌≡◌, sym, ◌∙◌, ap}
use mathlib.Core.Bool.{true}
use mathlib.Core.Logic.{◌↔◌, ◌⊎◌}
use native.Mathlib.Omega.{arith}
use Rattle.rules.specs.HallLine.{highest_key}
use Rattle.rules.specs.NodesLanesEdges.{lanes, level_at}
use Rattle.rules.specs.Profile.{Profile, is_live}
use Rattle.rules.specs.BoxSaysNo.{band_read_refusal, band_read_answer, edge_read_answer, node_read_answer}
use Rattle.rules.proofs.Means.{denied, not_means, not_fails, and_means, and_fails, lt_means, lt_fails, eq_means}
use Rattle.rules.proofs.Lists.{Some, Each, any_fails}
use Rattle.rules.proofs.NodesLanesEdges.{level_there}
use Rattle.rules.proofs.Profile.{has_number_means, is_live_means}
use Rattle.rules.proofs.BoxSaysNo.{edge_accepted, node_accepted}
use Rattle.rules.proofs.OthersRefused.{SizesGive, room_gives, BandGives, band_gives, StabGives, stab_gives, ThereGives, node_gives, edge_gives}
use Rattle.store.specs.Sizes.{sizes_right}
use Rattle.store.specs.Memory.{Memory, lengths_in}
use Rattle.store.specs.Places.{node_field, level_field}
use Rattle.store.specs.SaidProfile.{said_profile}
use Rattle.store.specs.Sound.{sound}
use Rattle.store.proofs.SaidStands.{sizes_of_sound, said_stands}
use Rattle.search.specs.PlaceOf.{place_of}
use Rattle.asking.specs.StabCall.{stab_in}
use Rattle.asking.specs.BandCall.{band_in}
use Rattle.asking.specs.EdgeCall.{edge_in, edge_refusal_in}
use Rattle.asking.specs.NodeCall.{node_in, node_refusal_in}
use Rattle.asking.specs.RoomCall.{room_read_in}
use Rattle.asking.proofs.BandOnAny.{band_on_any}
use Rattle.asking.proofs.OnSound.{edge_on_sound, node_on_sound}
use Rattle.asking.proofs.EdgeExact.{edge_refused_13, edge_exact}
use Rattle.asking.proofs.NodeExact.{node_refused_13, node_exact}

-- ---- room readout, stab and band readout

module _ (m : Memory) where
  pub room_refused_exactly : SizesGive (sizes_right (lengths_in m)) (room_read_in m).refusal
  unfolding room_read_in
  room_refused_exactly = room_gives (sizes_right (lengths_in m))

  pub stab_refused_exactly : (k : ℕ) → StabGives (sizes_right (lengths_in m)) k (stab_in m k).refusal
  unfolding stab_in
  stab_refused_exactly k = stab_gives (sizes_right (lengths_in m)) k

  module _ (number : ℕ) where
    -- a number is live where some band that the words say has it
    abbrev pub BandGivesIn : ℕ → Type 0
    BandGivesIn n =
        BandGives (sizes_right (lengths_in m)) (Each (λ b. b.number ≡ number → ⊥) (said_profile m).bands)
        (Some (λ b. b.number ≡ number) (said_profile m).bands) number n

    given_of_bands : BandGivesIn (band_read_refusal (sizes_right (lengths_in m)) (said_profile m) number)
    unfolding band_read_refusal is_live
    given_of_bands =
        band_gives (sizes_right (lengths_in m)) number (any_fails (λ b. denied (has_number_means number b)) (said_profile m).bands)
        (is_live_means number (said_profile m).bands)

    pub band_refused_exactly : BandGivesIn (band_in m number).refusal
    unfolding band_read_answer
    band_refused_exactly = rw (band_on_any m number) given_of_bands

-- ---- edge readout: 1, 4 and 13

-- by the profile that sound memory says: no node at the key, or it has no such lane
pub record EdgeGivesOf (p : Profile) (k lane n : ℕ) : Type 0 where
  pub gives_4 : (n ≡ 4) ↔ (highest_key < k)
  pub gives_13 : (n ≡ 13)
      ↔ ((k ≤ highest_key) × (Each (λ x. x.key ≡ k → ⊥) p.nodes ⊎ Some (λ x. (x.key ≡ k) × (x.level ≤ lane)) p.nodes))
  pub gives_0 : (n ≡ 0) ↔ Some (λ x. (x.key ≡ k) × (lane < x.level)) p.nodes

module _ (m : Memory) (k lane : ℕ) where
  -- by the words of any memory: no place is found for the key, or the lane is above 7 or not below the level that stands at the place
  abbrev pub EdgeGivesIn : ℕ → Type 0
  EdgeGivesIn n =
      ThereGives (sizes_right (lengths_in m))
      ((place_of m.nodes k ≡ 0) ⊎ ((lanes ≤ lane) ⊎ (node_field m.nodes (place_of m.nodes k) level_field ≤ lane)))
      ((place_of m.nodes k ≡ 0 → ⊥) × ((lane < lanes) × (lane < node_field m.nodes (place_of m.nodes k) level_field)))
      k n

  pub edge_refused_exactly : EdgeGivesIn (edge_in m k lane).refusal
  unfolding edge_in edge_refusal_in
  edge_refused_exactly =
      let place = place_of m.nodes k in
      let level = node_field m.nodes place level_field in
      edge_gives (sizes_right (lengths_in m)) k (not_fails (eq_means place 0)) (not_means (denied (eq_means place 0)))
      (and_fails (lt_fails lane lanes) (lt_fails lane level)) (and_means (lt_means lane lanes) (lt_means lane level))

  module _ (s : sound m ≡ true) where
    -- an edge is read exactly where a node stands at the key and has the lane
    edge_read_means : ((edge_in m k lane).refusal ≡ 0) ↔ Some (λ x. (x.key ≡ k) × (lane < x.level)) (said_profile m).nodes
    unfolding edge_read_answer
    edge_read_means = (fact, λ t. rw (← t.2.0) (edge_exact m s t.0 t.1 lane t.2.1).0)
      where
        fact : (edge_in m k lane).refusal ≡ 0 → Some (λ x. (x.key ≡ k) × (lane < x.level)) (said_profile m).nodes
        fact z =
            let p = said_profile m in
            let a = (edge_accepted true p k lane).0 (ap (λ o. o.refusal) (sym (edge_on_sound m s k lane)) ∙ z) in
            let x = a.1.1.0 in
            let level = level_there 0 p.nodes (said_stands m s).keys_ascend_lem x.0 x.1 in
            (x.0, x.1, (x.2, omega (arith, ap (λ j. level_at j p.nodes) x.2)))

    pub edge_refused_on_sound : EdgeGivesOf (said_profile m) k lane (edge_in m k lane).refusal
    edge_refused_on_sound =
        let any = edge_refused_exactly in
        let sizes = sizes_of_sound m s in
        record {
          gives_4 = (λ e. (any.gives_4.0 e).1, λ h. any.gives_4.1 (sizes, h));
          gives_13 = (
            λ e. let h = (any.gives_13.0 e).1 in (h, (edge_refused_13 m s k lane h).0 e),
            λ f. (edge_refused_13 m s k lane f.0).1 f.1,
          );
          gives_0 = edge_read_means;
        }

-- ---- node readout: 1, 4 and 13

-- by the profile that sound memory says: no node at the key
pub record NodeGivesOf (p : Profile) (k n : ℕ) : Type 0 where
  pub gives_4 : (n ≡ 4) ↔ (highest_key < k)
  pub gives_13 : (n ≡ 13) ↔ ((k ≤ highest_key) × Each (λ x. x.key ≡ k → ⊥) p.nodes)
  pub gives_0 : (n ≡ 0) ↔ Some (λ x. x.key ≡ k) p.nodes

module _ (m : Memory) (k : ℕ) where
  -- by the words of any memory: no place is found for the key
  abbrev pub NodeGivesIn : ℕ → Type 0
  NodeGivesIn n = ThereGives (sizes_right (lengths_in m)) (place_of m.nodes k ≡ 0) (place_of m.nodes k ≡ 0 → ⊥) k n

  pub node_refused_exactly : NodeGivesIn (node_in m k).refusal
  unfolding node_in node_refusal_in
  node_refused_exactly =
      let place = place_of m.nodes k in
      node_gives (sizes_right (lengths_in m)) k (not_fails (eq_means place 0)) (not_means (denied (eq_means place 0)))

  module _ (s : sound m ≡ true) where
    -- a node is read exactly where one stands at the key
    node_read_means : ((node_in m k).refusal ≡ 0) ↔ Some (λ x. x.key ≡ k) (said_profile m).nodes
    unfolding node_read_answer
    node_read_means = (
      λ z. ((node_accepted true (said_profile m) k).0 (ap (λ o. o.refusal) (sym (node_on_sound m s k)) ∙ z)).1.1,
      λ t. rw (← t.2) (node_exact m s t.0 t.1).0,
    )

    pub node_refused_on_sound : NodeGivesOf (said_profile m) k (node_in m k).refusal
    node_refused_on_sound =
        let any = node_refused_exactly in
        let sizes = sizes_of_sound m s in
        record {
          gives_4 = (λ e. (any.gives_4.0 e).1, λ h. any.gives_4.1 (sizes, h));
          gives_13 = (
            λ e. let h = (any.gives_13.0 e).1 in (h, (node_refused_13 m s k h).0 e),
            λ f. (node_refused_13 m s k f.0).1 f.1,
          );
          gives_0 = node_read_means;
        }
