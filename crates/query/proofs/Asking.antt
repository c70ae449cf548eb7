-- From the tables of a build, two sites get the figure of the rule.
use Rattle.std.proofs.Common.{◌≡◌, ℕ, ◌+◌, ◌≤◌, List, length, get_or, Some, None, Option, sym, refl, ap, ◌∙◌, subst, inr, ⊎_elim, arith}
use mathlib.Core.List.{Memᴰ}
use Rattle.std.proofs.lemmas.Option.{none-some, same_Some}
use Rattle.weight.specs.Algebra.{Algebra, AtMost}
use Rattle.network.specs.Graph.{Graph, Sound, At}
use Rattle.network.specs.Walks.{Distance}
use Rattle.network.specs.declared.link.Link.{Link}
use Rattle.oracle.specs.Radius.{radius_of, InBall}
use Rattle.oracle.specs.Rule.{Ball, Meets, Meeting, lesser, Totals}
use Rattle.oracle.proofs.Distances.{one_distance}
use Rattle.oracle.proofs.Stretch.{some_total}
use Rattle.filling.specs.Places.{listed, blank_entry}
use Rattle.filling.specs.Standing.{SiteStands, TablesStand}
use Rattle.filling.specs.declared.places.Entry.{Entry}
use Rattle.filling.specs.declared.places.RowPlace.{RowPlace}
use Rattle.filling.specs.declared.places.SitePlace.{SitePlace}
use Rattle.query.specs.Figures.{part, MetParts, AskedRight, Right}
use Rattle.query.specs.Hubs.{HubTold}
use Rattle.query.specs.Meeting.{Crossing, Met}
use Rattle.query.proofs.Telling.{hub_total_is, few_count, part_ends, entry_in_ball, in_ball_entry, pairs, is_ball}

module _ {V : Type 0} (k : Algebra V) (g : Graph V) (sound : Sound g) (few : g.sites ≤ 4096) (hubs : List ℕ) (es : List (Entry V)) (s t : ℕ) (here there : SitePlace V)
    (st_s : SiteStands k g hubs es s here) (st_t : SiteStands k g hubs es t there) (ends_s : here.first + here.count ≤ length es) (ends_t : there.first + there.count ≤ length es) where
  -- a crossing that was found is a meeting
  met_meets : (e : Entry V) (l : Link V) (x : V) → Memᴰ e (part es here) → At g e.site l → Crossing k (part es there) e.distance l x → Meets k g s t here.radius there.radius x
  met_meets e l x among at cross = record {
    near = e.site;
    link = l;
    there = at;
    from_s = e.distance;
    from_t = cross.0.distance;
    in_s = entry_in_ball k g hubs es s here st_s ends_s e among;
    in_t = subst (λ (w : ℕ). InBall k g t there.radius w cross.0.distance) cross.2 (entry_in_ball k g hubs es t there st_t ends_t cross.0 cross.1);
    sum = cross.3;
  }

  -- and every meeting is bounded by what was found
  meets_bounded : (r : Option V) → Met k g (part es here) (part es there) r → (x : V) → Meets k g s t here.radius there.radius x → (m : V) × (r ≡ Some m) × AtMost k m x
  meets_bounded r met x meets =
      let e = in_ball_entry k g hubs es s here st_s ends_s (blank_entry k) meets.near meets.from_s meets.in_s in
      let f = in_ball_entry k g hubs es t there st_t ends_t (blank_entry k) meets.link.far meets.from_t meets.in_t in
      ⊎_elim
      (λ (none : (e : Entry V) → Memᴰ e (part es there) → e.site ≡ meets.link.far → 4096 ≤ meets.link.far).
      let high = none f.0 f.1 f.2 in
      let low = sound.far_exists meets.near meets.link meets.there in
      absurd (omega arith))
      (λ (b : (m : V) × (r ≡ Some m) × (y : V) × Crossing k (part es there) e.0.distance meets.link y × AtMost k m y).
      let cross = b.3 in
      let away = (entry_in_ball k g hubs es t there st_t ends_t cross.0 cross.1).distance in
      let same : cross.0.distance ≡ meets.from_t =
      one_distance k g t meets.link.far cross.0.distance meets.from_t (subst (λ (w : ℕ). Distance k g t w cross.0.distance) cross.2 away) meets.in_t.distance in
      let total : b.2 ≡ x =
      cross.3 ∙ ap (λ (y : V). k.plus (k.plus y meets.link.weight) cross.0.distance) e.3 ∙ ap (k.plus (k.plus meets.from_s meets.link.weight)) same ∙ sym meets.sum in
      (b.0, b.1, subst (AtMost k b.0) total b.4))
      (met.bounded e.0 meets.link e.1 (subst (λ (w : ℕ). At g w meets.link) (sym e.2) meets.there))

  meeting_is : (r : Option V) → Met k g (part es here) (part es there) r → Meeting k g s t here.radius there.radius r
  meeting_is None met = λ x meets. let b = meets_bounded None met x meets in none-some b.0 b.1
  meeting_is (Some m) met =
      let c = met.comes m refl in (
        met_meets c.0 c.1 m c.2 c.3 c.4,
        (λ x meets. let b = meets_bounded (Some m) met x meets in subst (λ (y : V). AtMost k y x) (sym (same_Some m b.0 b.1)) b.2),
      )

  pub meeting_told : (r : Option V) → Met k g (part es here) (part es there) r → Meeting k g s t (radius_of st_s.told.near) (radius_of st_t.told.near) r
  meeting_told r met =
      subst (λ (o : Option V). Meeting k g s t o (radius_of st_t.told.near) r) st_s.told.radius
      (subst (λ (o : Option V). Meeting k g s t here.radius o r) st_t.told.radius (meeting_is r met))

-- the answer is right
module _ {V : Type 0} (k : Algebra V) (g : Graph V) (sound : Sound g) (hub_list : List (Option ℕ)) (places : List (SitePlace V)) (rows : List (RowPlace V)) (es : List (Entry V)) (s t n : ℕ)
    (asked : AskedRight g.sites (length hub_list) (length places) (length rows) s t) (stand : TablesStand k g (listed hub_list) places rows es n) where
  right_of : (meeting hub : Option V) → Totals k g (listed hub_list) s t meeting hub → (o : Option (V × ℕ)) → lesser k meeting hub ≡ o → Right k g (listed hub_list) s t o
  right_of meeting hub two None e = some_total k g sound (listed hub_list) s t meeting hub two e
  right_of meeting hub two (Some f) e = inr (meeting, hub, two, e)

  module _ (apart : s ≡ t → ⊥) (here there : SitePlace V) (is_here : here ≡ get_or places s here) (is_there : there ≡ get_or places t there) where
    st_s : SiteStands k g (listed hub_list) es s here
    st_s = subst (SiteStands k g (listed hub_list) es s) (sym is_here) (stand.sites s here asked.first)

    st_t : SiteStands k g (listed hub_list) es t there
    st_t = subst (SiteStands k g (listed hub_list) es t) (sym is_there) (stand.sites t there asked.second)

    pub apart_right : (meeting hub : Option V) → MetParts k g es here there meeting → HubTold k hub_list rows g.sites here there s t hub
        → (o : Option (V × ℕ)) → o ≡ lesser k meeting hub → Right k g (listed hub_list) s t o
    apart_right meeting hub met told o e =
        let ends_s = part_ends k g (listed hub_list) es s here st_s n asked.first stand.all_balls stand.room in
        let ends_t = part_ends k g (listed hub_list) es t there st_t n asked.second stand.all_balls stand.room in
        let few : there.count ≤ 4096 = let c = few_count k g (listed hub_list) es t there st_t in omega (arith, c, asked.few_sites) in
        right_of meeting hub (record {
          apart = apart;
          near_s = st_s.told.near;
          near_t = st_t.told.near;
          radius_s = st_s.told.is;
          radius_t = st_t.told.is;
          ball_s = pairs k g (listed hub_list) es s here st_s;
          ball_t = pairs k g (listed hub_list) es t there st_t;
          is_ball_s = subst (λ (r : Option V). Ball k g s r (pairs k g (listed hub_list) es s here st_s)) st_s.told.radius (is_ball k g (listed hub_list) es s here st_s);
          is_ball_t = subst (λ (r : Option V). Ball k g t r (pairs k g (listed hub_list) es t there st_t)) st_t.told.radius (is_ball k g (listed hub_list) es t there st_t);
          is_meeting = meeting_told k g sound asked.few_sites (listed hub_list) es s t here there st_s st_t ends_s ends_t meeting (met ends_s ends_t few);
          is_hub = hub_total_is k g hub_list rows stand.hub_rows s t here there asked.first asked.second st_s.told st_t.told hub told;
        }) o (sym e)
