-- The balls of all sites, laid one after the other.
use Rattle.std.proofs.Common.{◌≡◌, ℕ, suc, ◌+◌, ◌<◌, ◌≤◌, List, length, get_or, set, Some, None, Ok, Err, sym, refl, ap, ◌∙◌, subst, ⊎_elim, add-one, arith, length-set}
use Rattle.std.proofs.lemmas.List.{get_or-set_same, get_or-set_other, get_or_default}
use Rattle.std.proofs.lemmas.Bool.{cases_lt}
use Rattle.weight.specs.Algebra.{Algebra}
use Rattle.network.specs.Graph.{Graph}
use Rattle.shortest.specs.Finding.{Found}
use Rattle.shortest.specs.declared.waiting.Label.{Label}
use Rattle.shortest.specs.declared.waiting.Waiting.{Waiting}
use Rattle.filling.specs.Balls.{BallFilled, BallsFilled}
use Rattle.filling.specs.declared.tables.Unfilled.TheVariants.{NoRoom}
use Rattle.filling.specs.Rows.{Spared}
use Rattle.filling.specs.Standing.{Balls, Entered, Told, SiteStands}
use Rattle.filling.specs.declared.places.Entry.{Entry}
use Rattle.filling.specs.declared.places.SitePlace.{SitePlace}
use Rattle.filling.proofs.Counting.{all_exceed}
use Rattle.filling.proofs.Parts.{spared_twice}

-- the places tell the radius and the hub of each site
abbrev pub AllTold : {V : Type 0} → Algebra V → Graph V → List ℕ → List (SitePlace V) → Type 0
AllTold {V} k g hubs places = (v : ℕ) (d : SitePlace V) → v < g.sites → Told k g hubs v (get_or places v d)

-- the balls of the sites below `site` end at the place `first`, and each lies where the place of its site tells
pub record StandsBelow {V : Type 0} (k : Algebra V) (g : Graph V) (hubs : List ℕ) (site first : ℕ) (places : List (SitePlace V)) (entries : List (Entry V)) : Type 0 where
  pub balls : Balls k g hubs site first
  pub stand : (v : ℕ) (d : SitePlace V) → v < site → SiteStands k g hubs entries v (get_or places v d)
  pub ends : (v : ℕ) (d : SitePlace V) → v < site → (get_or places v d).first + (get_or places v d).count ≤ first

-- The balls of the sites below `site` were laid, up to the place `first`; the other places and entries are as they were.
pub record Laying {V : Type 0} (k : Algebra V) (g : Graph V) (places : List (SitePlace V)) (entries : List (Entry V)) (ws : List (Waiting V))
    (site first : ℕ) (places' : List (SitePlace V)) (entries' : List (Entry V)) (ws' : List (Waiting V)) : Type 0 where
  pub place_size : length places' ≡ length places
  pub entry_size : length entries' ≡ length entries
  pub spared : Spared g.sites ws ws'
  pub room : first ≤ length entries
  pub untold : (v : ℕ) (d : SitePlace V) → site ≤ v → get_or places' v d ≡ get_or places v d
  pub later : (i : ℕ) (d : Entry V) → first ≤ i → get_or entries' i d ≡ get_or entries i d
  pub laid : (hubs : List ℕ) → AllTold k g hubs places → StandsBelow k g hubs site first places' entries'

module _ {V : Type 0} {k : Algebra V} {g : Graph V} {places places' : List (SitePlace V)} {entries entries' : List (Entry V)} {ws ws' : List (Waiting V)} {site first : ℕ}
    (w : Laying k g places entries ws site first places' entries' ws') where
  pub all_laid : site ≡ g.sites → BallsFilled k g places (Ok first) places' entries entries' ws ws'
  all_laid all = record {
    place_size = w.place_size;
    entry_size = w.entry_size;
    spared = w.spared;
    laid = λ hubs told. let s = w.laid hubs told in record {
      stand = λ v d lt. s.stand v d (omega arith);
      all_balls = subst (λ m. Balls k g hubs m first) all s.balls;
      room = w.room;
      later = w.later;
    };
  }

  -- one site more, whose place is read
  module _ (there : site < g.sites) (each : length places ≡ g.sites) (default : SitePlace V) where
    abbrev p : SitePlace V
    p = get_or places' site default

    read : p ≡ get_or places' site p
    read = get_or_default places' site default p (omega (arith, w.place_size))

    told_here : (hubs : List ℕ) → AllTold k g hubs places → Told k g hubs site p
    told_here hubs told = subst (Told k g hubs site) (sym (read ∙ w.untold site p (omega arith))) (told site p there)

    balls_on : (hubs : List ℕ) (told : AllTold k g hubs places) (xs : List (Label V)) (n : ℕ) → Found k g site p.radius xs → n ≡ length xs → Balls k g hubs (suc site) (first + n)
    balls_on hubs told xs n found count =
        let t = told_here hubs told in
        (first, t.near, xs, (w.laid hubs told).balls, record { radius = t.is; sites = subst (λ r. Found k g site r xs) t.radius found }, ap (λ m. first + m) count)

    pub no_room : {entries'' : List (Entry V)} {ws'' : List (Waiting V)} → BallFilled k g site p.radius first None entries' entries'' ws' ws'' → BallsFilled k g places (Err (NoRoom site)) (set places' site p) entries entries'' ws ws''
    no_room b = record {
      place_size = length-set places' site p ∙ w.place_size;
      entry_size = b.size ∙ w.entry_size;
      spared = spared_twice w.spared b.spared;
      laid = λ hubs told.
          let with_it = balls_on hubs told b.laid.0 (length b.laid.0) b.laid.1.0 refl in
          let exceeds : length entries < first + length b.laid.0 = omega (arith, b.laid.1.1, w.entry_size) in
          record {
            there = there;
            before = first;
            lower = (w.laid hubs told).balls;
            fits = w.room;
            after = first + length b.laid.0;
            with_it = with_it;
            exceeds = exceeds;
            all_exceed = all_exceed k g hubs site (length entries) (first + length b.laid.0) there with_it exceeds;
          };
    }

    module _ {n : ℕ} {entries'' : List (Entry V)} {ws'' : List (Waiting V)} (b : BallFilled k g site p.radius first (Some n) entries' entries'' ws' ws'') where
      abbrev here : SitePlace V
      here = record { radius = p.radius; hub = p.hub; first = first; count = n }

      abbrev places'' : List (SitePlace V)
      places'' = set places' site here

      lower_same : (v : ℕ) (d : SitePlace V) → v < site → get_or places'' v d ≡ get_or places' v d
      lower_same v d lt = get_or-set_other places' site v here d (λ same. omega arith)

      here_at : (v : ℕ) (d : SitePlace V) → site ≡ v → get_or places'' v d ≡ here
      here_at v d same = ap (λ i. get_or places'' i d) (sym same) ∙ get_or-set_same places' site here d (omega (arith, w.place_size))

      module _ (hubs : List ℕ) (told : AllTold k g hubs places) where
        lower_stands : (v : ℕ) (d : SitePlace V) → v < site → SiteStands k g hubs entries'' v (get_or places' v d)
        lower_stands v d lt =
            let s = (w.laid hubs told).stand v d lt in
            record {
              told = s.told;
              labels = s.labels;
              ball = s.ball;
              starts = s.starts;
              count = s.count;
              entries = λ j e low.
                  subst (Entered (get_or places' v d).first s.labels j) (sym (b.laid.earlier ((get_or places' v d).first + j) e (omega (arith, s.count, (w.laid hubs told).ends v d lt))))
                  (s.entries j e low);
            }

        here_stands : SiteStands k g hubs entries'' site here
        here_stands =
            let t = told_here hubs told in
            record {
              told = record { near = t.near; is = t.is; radius = t.radius; hub = t.hub };
              labels = b.laid.labels;
              ball = b.laid.found;
              starts = (w.laid hubs told).balls;
              count = b.laid.count;
              entries = λ j e low. b.laid.entered j e (omega (arith, b.laid.count));
            }

        stands_on : StandsBelow k g hubs (site + 1) (first + n) places'' entries''
        stands_on = record {
          balls = subst (λ m. Balls k g hubs m (first + n)) (sym (add-one site)) (balls_on hubs told b.laid.labels n b.laid.found b.laid.count);
          stand = λ v d lt.
              ⊎_elim
              (λ (low : v < site). subst (SiteStands k g hubs entries'' v) (sym (lower_same v d low)) (lower_stands v d low))
              (λ (high : site ≤ v).
              let same : site ≡ v = omega arith in
              subst (SiteStands k g hubs entries'' v) (sym (here_at v d same)) (subst (λ i. SiteStands k g hubs entries'' i here) same here_stands))
              (cases_lt v site);
          ends = λ v d lt.
              ⊎_elim
              (λ (low : v < site). subst (λ q. q.first + q.count ≤ first + n) (sym (lower_same v d low)) (omega (arith, (w.laid hubs told).ends v d low)))
              (λ (high : site ≤ v). subst (λ q. q.first + q.count ≤ first + n) (sym (here_at v d (omega arith))) (omega arith))
              (cases_lt v site);
        }

      pub laid_more : Laying k g places entries ws (site + 1) (first + n) places'' entries'' ws''
      laid_more = record {
        place_size = length-set places' site here ∙ w.place_size;
        entry_size = b.size ∙ w.entry_size;
        spared = spared_twice w.spared b.spared;
        room = omega (arith, b.laid.room, w.entry_size);
        untold = λ v d le. get_or-set_other places' site v here d (λ same. omega arith) ∙ w.untold v d (omega arith);
        later = λ i d le. b.laid.later i d le ∙ w.later i d (omega arith);
        laid = stands_on;
      }
