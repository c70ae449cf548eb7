-- Hub after hub: the rows of those looked at so far are filled.
use Rattle.std.proofs.Common.{◌≡◌, ℕ, ◌+◌, ◌-◌, ◌*◌, ◌<◌, ◌≤◌, List, [], ◌∷◌, ◌++◌, length, get_or, take, drop, replicate, Some, None, Option, sym, refl, ap, ◌∙◌, subst, ⊎_elim, add-mul, one-mul, arith}
use borrow.Rule.Slice.PartMut.{put_mid}
use Rattle.std.proofs.lemmas.List.{length-take-le, length-drop, length-replicate, get_or-replicate, take_more, get_or_push, length_push, get_or_append_left, same_lists, take-append-drop, drop_more}
use Rattle.std.proofs.lemmas.Bool.{cases_lt}
use Rattle.weight.specs.Algebra.{Algebra}
use Rattle.network.specs.Graph.{Graph}
use Rattle.shortest.specs.declared.waiting.Waiting.{Waiting}
use Rattle.filling.specs.Places.{listed, blank_site, blank_row}
use Rattle.filling.specs.Rows.{RowFilled, RowsFilled}
use Rattle.filling.specs.Standing.{Told, HubStands, RowStands}
use Rattle.filling.specs.declared.places.RowPlace.{RowPlace}
use Rattle.filling.specs.declared.places.SitePlace.{SitePlace}
use Rattle.oracle.proofs.Nearer.{no_hub}
use Rattle.filling.proofs.Parts.{spared_none, spared_twice, length-put, get_or-put_before, get_or-put_inside, get_or-put_after, get_d_part, part_fits}

-- the first i places of the hub list have a hub each, and the rows of these are filled
pub record Rowing {V : Type 0} (k : Algebra V) (g : Graph V) (hub_list : List (Option ℕ)) (places : List (SitePlace V)) (rows : List (RowPlace V)) (ws : List (Waiting V))
    (i : ℕ) (places' : List (SitePlace V)) (rows' : List (RowPlace V)) (ws' : List (Waiting V)) : Type 0 where
  pub named : length (listed (take i hub_list)) ≡ i
  pub filled : RowsFilled k g (listed (take i hub_list)) places places' rows rows' ws ws'

-- ---- the hubs of a hub list

-- where each place has a hub, the list goes on
pub listed_append : (xs ys : List (Option ℕ)) → length (listed xs) ≡ length xs → listed (xs ++ ys) ≡ listed xs ++ listed ys
listed_append [] ys e = refl
listed_append (None ∷ xs) ys e = absurd (omega arith)
listed_append (Some x ∷ xs) ys e = ap (λ zs. x ∷ zs) (listed_append xs ys (omega arith))

-- the list ends at the first blank
pub listed_stop : (xs ys : List (Option ℕ)) → listed (xs ++ None ∷ ys) ≡ listed xs
listed_stop [] ys = refl
listed_stop (None ∷ xs) ys = refl
listed_stop (Some x ∷ xs) ys = ap (λ zs. x ∷ zs) (listed_stop xs ys)

pub listed_to_blank : (xs : List (Option ℕ)) (i : ℕ) → i < length xs → get_or xs i None ≡ None → listed xs ≡ listed (take i xs)
listed_to_blank xs i lt blank =
    ap listed (sym (take-append-drop i xs) ∙ ap (λ ys. take i xs ++ ys) (drop_more xs i None lt ∙ ap (λ o. o ∷ drop (i + 1) xs) blank)) ∙ listed_stop (take i xs) (drop (i + 1) xs)

-- ---- no rows, and one row more

module _ {V : Type 0} {k : Algebra V} {g : Graph V} {hub_list : List (Option ℕ)} {places : List (SitePlace V)} {rows : List (RowPlace V)} {ws : List (Waiting V)} where
  pub no_rows : places ≡ replicate g.sites blank_site → Rowing k g hub_list places rows ws 0 places rows ws
  no_rows blank = record {
    named = refl;
    filled = record {
      place_size = refl;
      row_size = refl;
      spared = spared_none;
      told = λ v d lt.
          subst (Told k g [] v) (sym (ap (λ ps. get_or ps v d) blank ∙ get_or-replicate g.sites v blank_site d lt)) (record { near = None; is = no_hub k g v; radius = refl; hub = refl });
      hub_rows = λ r d lt. absurd (omega arith);
      others = λ i d le. refl;
    };
  }

  module _ {i : ℕ} {places' : List (SitePlace V)} {rows' : List (RowPlace V)} {ws' : List (Waiting V)} (so_far : Rowing k g hub_list places rows ws i places' rows' ws') where
    abbrev hubs : List ℕ
    hubs = listed (take i hub_list)

    -- the hubs so far are all
    pub all_rows : listed hub_list ≡ hubs → RowsFilled k g (listed hub_list) places places' rows rows' ws ws'
    all_rows e = subst (λ hs. RowsFilled k g hs places places' rows rows' ws ws') (sym e) so_far.filled

    module _ (blank : rows ≡ replicate (length hub_list * g.sites) blank_row) (lt : i < length hub_list) where
      ends : i * g.sites + g.sites ≤ length rows'
      ends = omega (arith, part_fits i (length hub_list) g.sites lt, so_far.filled.row_size, ap length blank, length-replicate (length hub_list * g.sites) (blank_row {V = V}))

      abbrev next_row : List (RowPlace V)
      next_row = take g.sites (drop (i * g.sites) rows')

      next_long : length next_row ≡ g.sites
      next_long = length-take-le g.sites (drop (i * g.sites) rows') (omega (arith, ends, length-drop (i * g.sites) rows'))

      -- the row of the next hub is still blank
      next_blank : next_row ≡ replicate g.sites blank_row
      next_blank =
          same_lists next_row (replicate g.sites blank_row) (next_long ∙ sym (length-replicate g.sites blank_row)) (λ j d inside.
          let low : j < g.sites = omega (arith, next_long, inside) in
          get_d_part (i * g.sites) g.sites rows' j d low
          ∙ so_far.filled.others (i * g.sites + j) d (omega (arith, ap (λ n. n * g.sites) so_far.named))
          ∙ ap (λ rs. get_or rs (i * g.sites + j) d) blank
          ∙ get_or-replicate (length hub_list * g.sites) (i * g.sites + j) blank_row d (omega (arith, part_fits i (length hub_list) g.sites lt, low))
          ∙ sym (get_or-replicate g.sites j blank_row d low))

      -- the row of the next hub was filled
      module _ {h : ℕ} (is : get_or hub_list i None ≡ Some h) {part : List (RowPlace V)} {places'' : List (SitePlace V)} {ws'' : List (Waiting V)} (row : RowFilled k g h next_row part places' places'' ws' ws'') where
        hubs_more : listed (take (i + 1) hub_list) ≡ hubs ++ h ∷ []
        hubs_more =
            ap listed (take_more hub_list i None lt ∙ ap (λ o. take i hub_list ++ o ∷ []) is)
            ∙ listed_append (take i hub_list) (Some h ∷ []) (so_far.named ∙ sym (length-take-le i hub_list (omega arith)))

        named_more : length (hubs ++ h ∷ []) ≡ i + 1
        named_more = length_push hubs h ∙ ap (λ n. n + 1) so_far.named

        abbrev put : List (RowPlace V)
        put = put_mid (i * g.sites) g.sites rows' part

        long : length part ≡ g.sites
        long = row.row_size ∙ next_long

        old_row : (r d : ℕ) → r < i → HubStands k g rows' (r * g.sites) (get_or hubs r d) → HubStands k g put (r * g.sites) (get_or hubs r d)
        old_row r d less stands = record {
          labels = stands.labels;
          found = stands.found;
          row = λ v e low.
              subst (RowStands g (get_or hubs r d) stands.labels v)
              (sym (get_or-put_before (i * g.sites) g.sites rows' part ends long (r * g.sites + v) e (omega (arith, part_fits r i g.sites less, low)))) (stands.row v e low);
        }

        new_row : HubStands k g put (i * g.sites) h
        new_row = record {
          labels = row.stands.labels;
          found = row.stands.found;
          row = λ v e low.
              let same : 0 + v ≡ v = omega arith in
              subst (RowStands g h row.stands.labels v)
              (ap (λ m. get_or part m e) same ∙ sym (get_or-put_inside (i * g.sites) g.sites rows' part ends long v e low)) (row.stands.row v e low);
        }

        more : RowsFilled k g (hubs ++ h ∷ []) places places'' rows put ws ws''
        more = record {
          place_size = row.place_size ∙ so_far.filled.place_size;
          row_size = length-put (i * g.sites) g.sites rows' part ends long ∙ so_far.filled.row_size;
          spared = spared_twice so_far.filled.spared row.spared;
          told = λ v d low. row.told hubs v d low (so_far.filled.told v d low);
          hub_rows = λ r d inside.
              ⊎_elim
              (λ (less : r < i).
              subst (HubStands k g put (r * g.sites)) (sym (get_or_append_left hubs (h ∷ []) d r (omega (arith, so_far.named))))
              (old_row r d less (so_far.filled.hub_rows r d (omega (arith, so_far.named)))))
              (λ (ge : i ≤ r).
              let same : r ≡ i = omega (arith, named_more) in
              subst (λ (m : ℕ). HubStands k g put (m * g.sites) (get_or (hubs ++ h ∷ []) m d)) (sym same) (subst (HubStands k g put (i * g.sites)) (sym (get_or_push hubs h d i so_far.named)) new_row))
              (cases_lt r i);
          others = λ j d le.
              let past : i * g.sites + g.sites ≤ j = omega (arith, le, ap (λ m. m * g.sites) named_more, add-mul i 1 g.sites, one-mul g.sites) in
              get_or-put_after (i * g.sites) g.sites rows' part ends long j d past ∙ so_far.filled.others j d (omega (arith, past, ap (λ m. m * g.sites) so_far.named));
        }

        filled_more : Rowing k g hub_list places rows ws (i + 1) places'' put ws''
        filled_more = record {
          named = ap length hubs_more ∙ named_more;
          filled = subst (λ hs. RowsFilled k g hs places places'' rows put ws ws'') (sym hubs_more) more;
        }

      -- the same of the part from i * s to i * s + s, where the number of sites is known as s
      module _ {s : ℕ} (same : s ≡ g.sites) where
        at_part : (P : ℕ → ℕ → Type 0) → P (i * g.sites) g.sites → P (i * s) (i * s + s - i * s)
        at_part P p = let count : s ≡ i * s + s - i * s = omega arith in subst (P (i * s)) count (subst (λ n. P (i * n) n) (sym same) p)

        pub row_ends : i * s + s ≤ length rows'
        row_ends = subst (λ n. i * n + n ≤ length rows') (sym same) ends

        pub row_blank : take (i * s + s - i * s) (drop (i * s) rows') ≡ replicate g.sites blank_row
        row_blank = at_part (λ a n. take n (drop a rows') ≡ replicate g.sites blank_row) next_blank

        pub rows_more : {h : ℕ} {part : List (RowPlace V)} {places'' : List (SitePlace V)} {ws'' : List (Waiting V)} → get_or hub_list i None ≡ Some h
            → RowFilled k g h (take (i * s + s - i * s) (drop (i * s) rows')) part places' places'' ws' ws'' → Rowing k g hub_list places rows ws (i + 1) places'' (put_mid (i * s) (i * s + s - i * s) rows' part) ws''
        rows_more {h = h} {part = part} {places'' = places''} {ws'' = ws''} is =
            at_part (λ a n. RowFilled k g h (take n (drop a rows')) part places' places'' ws' ws'' → Rowing k g hub_list places rows ws (i + 1) places'' (put_mid a n rows' part) ws'') (filled_more is)
