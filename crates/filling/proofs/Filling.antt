-- All tables: rows and balls were filled over blank places, or a ball found no room.
use Rattle.std.proofs.Common.{◌≡◌, ℕ, ◌-◌, List, ◌++◌, length, get_or, take, drop, replicate, Ok, Err, Result, true, false, is_err, sym, ap, ◌∙◌, subst, arith}
use Rattle.std.proofs.lemmas.Bool.{true≢false}
use Rattle.std.proofs.lemmas.List.{length-replicate, get_or-replicate}
use Rattle.weight.specs.Algebra.{Algebra}
use Rattle.network.specs.Graph.{Graph}
use Rattle.shortest.specs.Places.{blank_place}
use Rattle.shortest.specs.declared.waiting.Waiting.{Waiting}
use Rattle.filling.specs.Balls.{BallsFilled}
use Rattle.filling.specs.declared.tables.Unfilled.TheVariants.{NoRoom, Misfit}
use Rattle.filling.specs.declared.tables.Unfilled.{Unfilled}
use Rattle.filling.specs.Places.{blank_site, blank_row, blank_entry, blanked, listed}
use Rattle.filling.specs.Rows.{Spared, RowsFilled}
use Rattle.filling.specs.Standing.{LacksRoom}
use Rattle.filling.specs.Tables.{Memory, memory, Fits, Filled}
use Rattle.filling.specs.declared.places.Entry.{Entry}
use Rattle.filling.specs.declared.places.RowPlace.{RowPlace}
use Rattle.filling.specs.declared.places.SitePlace.{SitePlace}
use Rattle.filling.proofs.Blanked.{blanked_is}

module _ {V : Type 0} {k : Algebra V} {g : Graph V} (m : Memory V) {ss ss' : List (SitePlace V)} {rs rs' : List (RowPlace V)} {es : List (Entry V)} {ws' : List (Waiting V)}
    (n : ℕ) (sites : n ≡ g.sites) (sized : Fits n m)
    (blank_sites : ss ≡ replicate (length m.site_places) blank_site) (blank_rows : rs ≡ replicate (length m.rows) blank_row) (blank_entries : es ≡ replicate (length m.entries) (blank_entry k))
    (rows : RowsFilled k g (listed m.hub_list) ss ss' rs rs' m.waiting ws') where
  fits : Fits g.sites m
  fits = subst (λ s. Fits s m) sites sized

  entry_count : length es ≡ length m.entries
  entry_count = ap length blank_entries ∙ length-replicate (length m.entries) (blank_entry k)

  row_count : length rs ≡ length m.rows
  row_count = ap length blank_rows ∙ length-replicate (length m.rows) blank_row

  place_count : length ss ≡ length m.site_places
  place_count = ap length blank_sites ∙ length-replicate (length m.site_places) blank_site

  module _ {ws'' : List (Waiting V)} (v : Waiting V) (vs : List (Waiting V)) (blank : v ≡ blank_place) (wrote : vs ≡ replicate (length (take (n - 0) ws'')) v) where
    -- the waiting places, which the searches used and which were blanked then
    waiting : Spared g.sites ws' ws'' → vs ++ drop (n - 0) ws'' ≡ blanked g.sites blank_place m.waiting
    waiting spared =
        blanked_is ws'' n vs v (omega (arith, fits.room, rows.spared.size, spared.size)) wrote blank_place blank
        ∙ ap (λ s. blanked s blank_place ws'') sites ∙ ap (λ zs. replicate g.sites blank_place ++ zs) (spared.beyond ∙ rows.spared.beyond)

    -- what is answered where no ball was refused
    pub all_filled : {r : Result ℕ Unfilled} {ss'' : List (SitePlace V)} {es' : List (Entry V)} → BallsFilled k g ss' r ss'' es es' ws' ws'' → is_err r ≡ false → Filled k g m r (memory m.hub_list ss'' rs' es' (vs ++ drop (n - 0) ws''))
    all_filled {r = Ok count} balls passed =
        let laid = balls.laid (listed m.hub_list) rows.told in (
          fits,
          record {
            site_places = balls.place_size ∙ rows.place_size ∙ place_count;
            rows = rows.row_size ∙ row_count;
            entries = balls.entry_size ∙ entry_count;
            stand = record {
              sites = laid.stand;
              hub_rows = rows.hub_rows;
              all_balls = laid.all_balls;
              room = omega (arith, laid.room, balls.entry_size);
              free_rows = λ i d le lt.
                  rows.others i d le ∙ ap (λ xs. get_or xs i d) blank_rows ∙ get_or-replicate (length m.rows) i blank_row d (omega (arith, lt, rows.row_size, row_count));
              free_entries = λ i d le lt.
                  laid.later i d le ∙ ap (λ xs. get_or xs i d) blank_entries ∙ get_or-replicate (length m.entries) i (blank_entry k) d (omega (arith, lt, balls.entry_size, entry_count));
            };
          },
          waiting balls.spared,
        )
    all_filled {r = Err fault} balls refused = absurd (true≢false refused)

    -- and where one was, and all places were blanked again
    pub none_filled : {r : Result ℕ Unfilled} {ss'' : List (SitePlace V)} {es' : List (Entry V)} → BallsFilled k g ss' r ss'' es es' ws' ws'' → is_err r ≡ true → {ss''' : List (SitePlace V)} {rs'' : List (RowPlace V)} {es'' : List (Entry V)}
        → ss''' ≡ replicate (length ss'') blank_site → rs'' ≡ replicate (length rs') blank_row → es'' ≡ replicate (length es') (blank_entry k)
        → Filled k g m r (memory m.hub_list ss''' rs'' es'' (vs ++ drop (n - 0) ws''))
    none_filled {r = Ok count} balls passed p q e = absurd (true≢false (sym passed))
    none_filled {r = Err (NoRoom site)} balls refused p q e = (
      fits,
      subst (λ (count : ℕ). LacksRoom k g (listed m.hub_list) count site) entry_count (balls.laid (listed m.hub_list) rows.told),
      record {
        site_places = p ∙ ap (λ s. replicate s blank_site) (balls.place_size ∙ rows.place_size ∙ place_count);
        rows = q ∙ ap (λ s. replicate s blank_row) (rows.row_size ∙ row_count);
        entries = e ∙ ap (λ s. replicate s (blank_entry k)) (balls.entry_size ∙ entry_count);
      },
      waiting balls.spared,
    )
    none_filled {r = Err Misfit} balls refused p q e = absurd (balls.laid (listed m.hub_list) rows.told)
