-- What the tables of a build tell of two sites: their meeting total and their hub total.
use Rattle.std.proofs.Common.{◌≡◌, ℕ, suc, ◌+◌, ◌*◌, ◌<◌, ◌≤◌, Bool, true, false, List, map, length, get_or, drop, Some, None, Option, sym, ap, ◌∙◌, subst, ⊎_elim, arith}
use mathlib.Core.List.Memᴰ
use mathlib.Core.List.{Memᴰ}
use Rattle.std.proofs.lemmas.List.{length-take-le, length-drop}
use Rattle.std.proofs.lemmas.Bool.{cases_lt}
use Rattle.std.proofs.lemmas.Option.{none-some, same_Some}
use Rattle.weight.specs.Algebra.{Algebra}
use Rattle.network.specs.Graph.{Graph}
use Rattle.network.specs.Walks.{Distance, Unjoined, Below}
use Rattle.network.proofs.Closing.{end_exists}
use Rattle.oracle.specs.Radius.{Radius, radius_of, hub_of, InBall}
use Rattle.oracle.specs.Rule.{Ball, Through, HubTotal, HubTotalBy, no_wider}
use Rattle.oracle.proofs.Distances.{one_distance}
use Rattle.shortest.specs.Finding.{Found, source_label}
use Rattle.shortest.specs.declared.waiting.Label.{Label}
use Rattle.shortest.proofs.Pigeons.{crowded}
use Rattle.shortest.proofs.Searching.{at_place}
use Rattle.shortest.proofs.Settled.{mem_place}
use Rattle.filling.specs.Places.{blank_row, listed}
use Rattle.filling.specs.Standing.{Balls, Told, SiteStands, RowStands, HubStands}
use Rattle.filling.specs.declared.places.Entry.{Entry}
use Rattle.filling.specs.declared.places.RowPlace.{RowPlace}
use Rattle.filling.specs.declared.places.SitePlace.{SitePlace}
use Rattle.filling.proofs.Counting.{more_entries}
use Rattle.filling.proofs.Parts.{get_d_part}
use Rattle.query.specs.Figures.{part}
use Rattle.query.specs.Hubs.{Placed, ThroughTold, no_radius, no_hub, unlisted, unreached, reached, HubTold, HubToldBy}

-- ---- the hub total

module _ {V : Type 0} (k : Algebra V) (g : Graph V) (hub_list : List (Option ℕ)) (rows : List (RowPlace V))
    (stand : (r d : ℕ) → r < length (listed hub_list) → HubStands k g rows (r * g.sites) (get_or (listed hub_list) r d)) where
  module _ (v : ℕ) (p : SitePlace V) (to : ℕ) (there : to < g.sites) where
    -- the row of the hub h tells of `to`
    row_of : (near : ℕ × V) (hub at : ℕ) → p.hub ≡ Some hub → p.hub ≡ Some near.0 → Placed hub_list hub (Some at)
        → (labels : List (Label V)) × Found k g near.0 None labels × RowStands g near.0 labels to (get_or rows (at * g.sites + to) blank_row)
    row_of near hub at is known placed =
        let row = stand at 0 placed.1 in
        let same : get_or (listed hub_list) at 0 ≡ near.0 = placed.2 0 ∙ same_Some hub near.0 (sym is ∙ known) in
        (row.labels, subst (λ (h : ℕ). Found k g h None row.labels) same row.found, subst (λ (h : ℕ). RowStands g h row.labels to (get_or rows (at * g.sites + to) blank_row)) same (row.row to blank_row there))

    through_is : (near : Option (ℕ × V)) → Radius k g (listed hub_list) v near → p.radius ≡ radius_of near → p.hub ≡ hub_of near → (r : Option V) → ThroughTold k hub_list rows g.sites p to r → Through k g near to r
    through_is None rad er eh r (no_radius a e) = e
    through_is None rad er eh r (no_hub a e) = e
    through_is None rad er eh r (unlisted hub a b e) = e
    through_is None rad er eh r (unreached hub at a b c e) = e
    through_is None rad er eh r (reached radius hub at rest a b c d e) = absurd (none-some radius (sym er ∙ a))
    through_is (Some near) rad er eh r (no_radius a e) = absurd (none-some near.1 (sym a ∙ er))
    through_is (Some near) rad er eh r (no_hub a e) = absurd (none-some near.0 (sym a ∙ eh))
    through_is (Some near) rad er eh r (unlisted hub a b e) = absurd (b (subst (λ (h : ℕ). Memᴰ h (listed hub_list)) (same_Some near.0 hub (sym eh ∙ a)) rad.is_hub))
    through_is (Some near) rad er eh r (unreached hub at a b c e) =
        subst (Through k g (Some near) to) (sym e)
        (let row = row_of near hub at a eh b in
        ⊎_elim
        (λ (x : (l : Label V) × Memᴰ l row.0 × (l.site ≡ to) × (get_or rows (at * g.sites + to) blank_row ≡ record { distance = Some l.distance; before = l.before; mark = l.mark })).
        absurd (none-some x.0.distance (sym c ∙ ap (λ (z : RowPlace V). z.distance) x.3)))
        (λ (x : Unjoined g near.0 to × (get_or rows (at * g.sites + to) blank_row ≡ blank_row)). x.0)
        row.2)
    through_is (Some near) rad er eh r (reached radius hub at rest a b c d e) =
        subst (Through k g (Some near) to) (sym e)
        (let row = row_of near hub at b eh c in
        ⊎_elim
        (λ (x : (l : Label V) × Memᴰ l row.0 × (l.site ≡ to) × (get_or rows (at * g.sites + to) blank_row ≡ record { distance = Some l.distance; before = l.before; mark = l.mark })).
        let same : rest ≡ x.0.distance = same_Some rest x.0.distance (sym d ∙ ap (λ (z : RowPlace V). z.distance) x.3) in
        let r_same : radius ≡ near.1 = same_Some radius near.1 (sym a ∙ er) in
        let away : Distance k g near.0 to rest = subst (Distance k g near.0 to) (sym same) (subst (λ (u : ℕ). Distance k g near.0 u x.0.distance) x.2 (row.1.distances x.0 x.1).0) in
        (rest, away, ap (λ (y : V). k.plus y rest) r_same))
        (λ (x : Unjoined g near.0 to × (get_or rows (at * g.sites + to) blank_row ≡ blank_row)). absurd (none-some rest (sym (ap (λ (z : RowPlace V). z.distance) x.1) ∙ d)))
        row.2)

  module _ (s t : ℕ) (here there : SitePlace V) (in_s : s < g.sites) (in_t : t < g.sites) (told_s : Told k g (listed hub_list) s here) (told_t : Told k g (listed hub_list) t there) where
    by_end : (b : Bool) (r : Option V) → HubToldBy b k hub_list rows g.sites here there s t r → HubTotalBy b k g s t told_s.near told_t.near r
    by_end true r h = through_is s here t in_t told_s.near told_s.is told_s.radius told_s.hub r h
    by_end false r h = through_is t there s in_s told_t.near told_t.is told_t.radius told_t.hub r h

    pub hub_total_is : (r : Option V) → HubTold k hub_list rows g.sites here there s t r → HubTotal k g s t told_s.near told_t.near r
    hub_total_is r h =
        let same : no_wider k here.radius there.radius ≡ no_wider k (radius_of told_s.near) (radius_of told_t.near) = ap (λ o. no_wider k o there.radius) told_s.radius ∙ ap (no_wider k (radius_of told_s.near)) told_t.radius in
        by_end (no_wider k (radius_of told_s.near) (radius_of told_t.near)) r (subst (λ (b : Bool). HubToldBy b k hub_list rows g.sites here there s t r) same h)

-- ---- balls

module _ {V : Type 0} (k : Algebra V) (g : Graph V) where
  -- a ball has no more sites than there are
  pub few_labels : (v : ℕ) (cut : Option V) (xs : List (Label V)) → Found k g v cut xs → length xs ≤ g.sites
  few_labels v cut xs f =
      ⊎_elim
      (λ (many : g.sites < length xs).
      absurd (crowded g.sites (λ j. (get_or xs j source).site) (λ j le. exists j (omega arith)) (λ i j li lj e.
      ⊎_elim (λ (less : i < j). absurd (f.once i j source less (omega arith) e))
      (λ (ge : j ≤ i). ⊎_elim (λ (less : j < i). absurd (f.once j i source less (omega arith) (sym e))) (λ (le : i ≤ j). omega arith) (cases_lt j i))
      (cases_lt i j))))
      (λ (le : length xs ≤ g.sites). le)
      (cases_lt g.sites (length xs))
    where
      source : Label V
      source = source_label k v

      exists : (j : ℕ) → j < length xs → (get_or xs j source).site < g.sites
      exists j lt = let at = (f.distances (get_or xs j source) (at_place xs j source lt)).0 in end_exists k g v (get_or xs j source).site at.walk at.joins

  module _ (hubs : List ℕ) (es : List (Entry V)) (v : ℕ) (p : SitePlace V) (st : SiteStands k g hubs es v p) where
    pub few_count : p.count ≤ g.sites
    few_count = let few = few_labels v p.radius st.labels st.ball in omega (arith, st.count)

    -- the part ends within the entries
    pub part_ends : (n : ℕ) → v < g.sites → Balls k g hubs g.sites n → n ≤ length es → p.first + p.count ≤ length es
    part_ends n there all room =
        let t = st.told in
        let on : Balls k g hubs (suc v) (p.first + p.count) = (
          p.first,
          t.near,
          st.labels,
          st.starts,
          record { radius = t.is; sites = subst (λ (r : Option V). Found k g v r st.labels) t.radius st.ball },
          ap (λ m. p.first + m) st.count,
        ) in
        let low : p.first + p.count ≤ n = more_entries k g hubs g.sites (suc v) (p.first + p.count) n on all there in
        omega arith

    module _ (ends : p.first + p.count ≤ length es) where
      long : length (part es p) ≡ p.count
      long = length-take-le p.count (drop p.first es) (omega (arith, length-drop p.first es))

      -- the entries of the part are the labels of the ball
      pub entry_label : (e : Entry V) → Memᴰ e (part es p) → (x : Label V) × Memᴰ x st.labels × (e.site ≡ x.site) × (e.distance ≡ x.distance)
      entry_label e m =
          let at = mem_place e (part es p) m in
          let inside : at.0 < length st.labels = omega (arith, at.1, long, st.count) in
          let is : get_or es (p.first + at.0) e ≡ e = sym (get_d_part p.first p.count es at.0 e (omega (arith, inside, st.count))) ∙ at.2 e in
          let entered = st.entries at.0 e inside in
          let x = get_or st.labels at.0 (source_label k v) in
          (x, at_place st.labels at.0 (source_label k v) inside, ap (λ (z : Entry V). z.site) (sym is) ∙ entered.site (source_label k v), ap (λ (z : Entry V). z.distance) (sym is) ∙ entered.distance (source_label k v))

      pub label_entry : (x : Label V) → Memᴰ x st.labels → (d : Entry V) → (e : Entry V) × Memᴰ e (part es p) × (e.site ≡ x.site) × (e.distance ≡ x.distance)
      label_entry x m d =
          let at = mem_place x st.labels m in
          let low : at.0 < p.count = omega (arith, at.1, st.count) in
          let e = get_or (part es p) at.0 d in
          let is : e ≡ get_or es (p.first + at.0) d = get_d_part p.first p.count es at.0 d low in
          let entered = st.entries at.0 d at.1 in
          (e, at_place (part es p) at.0 d (omega (arith, low, long)), ap (λ (z : Entry V). z.site) is ∙ entered.site x ∙ ap (λ (z : Label V). z.site) (at.2 x), ap (λ (z : Entry V). z.distance) is ∙ entered.distance x ∙ ap (λ (z : Label V). z.distance) (at.2 x))

      pub entry_in_ball : (e : Entry V) → Memᴰ e (part es p) → InBall k g v p.radius e.site e.distance
      entry_in_ball e m =
          let x = entry_label e m in
          let f = st.ball.distances x.0 x.1 in
          subst (λ (w : ℕ). InBall k g v p.radius w e.distance) (sym x.2) (subst (InBall k g v p.radius x.0.site) (sym x.3) (record { distance = f.0; inside = f.1 }))

      pub in_ball_entry : (d : Entry V) (w : ℕ) (x : V) → InBall k g v p.radius w x → (e : Entry V) × Memᴰ e (part es p) × (e.site ≡ w) × (e.distance ≡ x)
      in_ball_entry d w x b =
          let there = b.distance in
          let l = st.ball.whole w there.walk there.joins (subst (λ (y : V). Below k y p.radius) (sym there.totals) b.inside) in
          let e = label_entry l.0 l.1 d in
          let same : l.0.distance ≡ x = one_distance k g v w l.0.distance x (subst (λ (u : ℕ). Distance k g v u l.0.distance) l.2 (st.ball.distances l.0 l.1).0) there in
          (e.0, e.1, e.2 ∙ l.2, e.3 ∙ same)

    abbrev pub pairs : List (ℕ × V)
    pairs = map (λ (x : Label V). (x.site, x.distance)) st.labels

    pub is_ball : Ball k g v p.radius pairs
    is_ball = record {
      inside = λ w d m.
          let x = Memᴰ.of_map (λ (x : Label V). (x.site, x.distance)) st.labels m in
          let f = st.ball.distances x.0 x.1 in
          subst (λ (q : ℕ × V). InBall k g v p.radius q.0 q.1) x.2 (record { distance = f.0; inside = f.1 });
      whole = λ w ls walk below.
          let x = st.ball.whole w ls walk below in
          (x.0.distance, subst (λ (u : ℕ). Memᴰ (u, x.0.distance) pairs) x.2 (Memᴰ.map (λ (x : Label V). (x.site, x.distance)) x.1));
    }
