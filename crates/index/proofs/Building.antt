-- The ways out of a build.
use Rattle.std.proofs.Common.{◌≡◌, ℕ, ◌*◌, ◌≤◌, Bool, true, false, List, ◌++◌, length, take, replicate, Ok, Err, Result, sym, refl, ap, ◌∙◌, subst}
use Rattle.std.proofs.lemmas.List.{length-take-le, take-append-drop}
use Rattle.weight.specs.Algebra.{Algebra}
use Rattle.network.specs.Graph.{Graph}
use Rattle.shortest.specs.declared.waiting.Waiting.{Waiting}
use Rattle.filling.specs.Places.{blank_site, blank_row, blank_entry, blanked, listed}
use Rattle.filling.specs.Rows.{Spared}
use Rattle.filling.specs.Standing.{TablesStand, LacksRoom}
use Rattle.filling.specs.Tables.{Filled}
use Rattle.filling.specs.declared.tables.Unfilled.{Unfilled}
use Rattle.filling.specs.declared.tables.Unfilled.TheVariants as unfilled
use Rattle.index.specs.Books.{BookState, state, hubs_of, emptied}
use Rattle.index.specs.Building.{tables_of, RestKept, Built, exceeding, granted}
use Rattle.index.specs.declared.book.Book.{Book}
use Rattle.index.specs.declared.fault.IndexFault.TheVariants.{NoRoom}

-- memory whose first places are blank, and whose further places are as they were
blank_whole : {X : Type 0} (xs ys : List X) (n m : ℕ) (blank : X) → n ≤ length xs → m ≡ n → Spared n xs ys → take m ys ≡ replicate (length (take n xs)) blank → ys ≡ blanked n blank xs
blank_whole xs ys n m blank inside same spared front =
    sym (take-append-drop n ys) ∙ (λ i. (ap (λ k. take k ys) (sym same) ∙ front ∙ ap (λ k. replicate k blank) (length-take-le n xs inside)) i ++ spared.beyond i)

-- the book with a build or without
abbrev with_built : {V : Type 0} → Bool → BookState V → BookState V
with_built built b = record b { built = built }

module _ {V : Type 0} (k : Algebra V) (g : Graph V) (ws ws' : List (Waiting V)) (t t' : Book V) (agreed : t.sizes.sites ≡ g.sites) (rest : RestKept (state t) (state t')) where
  abbrev b : BookState V
  b = state t

  abbrev b' : BookState V
  b' = state t'

  hubs_same : hubs_of b' ≡ hubs_of b
  hubs_same = λ i. listed (take (rest.hub_places i) (rest.hub_list i))

  pub build_granted : (n : ℕ) → Filled k g (tables_of b ws) (Ok n) (tables_of b' ws') → Built k g ws b (Ok n) ws' (with_built true b')
  build_granted n filled =
      granted n (record { agreed = agreed; room = filled.0.room; waiting = filled.2 })
      (record {
        built = refl;
        tables = subst (λ hs. TablesStand k g hs (take b'.sites b'.site_places) (take (b'.hub_places * b'.sites) b'.rows) (take b'.entry_places b'.entries) n) (sym hubs_same) filled.1.stand;
      })
      (record { sites = rest.sites; hub_places = rest.hub_places; entry_places = rest.entry_places; hub_list = rest.hub_list; site_places = rest.site_places; rows = rest.rows; entries = rest.entries })
      refl

  emptied_now : (v : ℕ) → Filled k g (tables_of b ws) (Err (unfilled.NoRoom v)) (tables_of b' ws') → with_built false b' ≡ emptied k b
  emptied_now v filled =
      let ss = blank_whole b.site_places b'.site_places b.sites b'.sites blank_site t.held.0 rest.sites rest.site_places filled.2.site_places in
      let rs = blank_whole b.rows b'.rows (b.hub_places * b.sites) (b'.hub_places * b'.sites) blank_row t.held.2 (λ i. rest.hub_places i * rest.sites i) rest.rows filled.2.rows in
      let es = blank_whole b.entries b'.entries b.entry_places b'.entry_places (blank_entry k) t.held.3 rest.entry_places rest.entries filled.2.entries in
      λ i. record {
        sites = rest.sites i;
        hub_places = rest.hub_places i;
        entry_places = rest.entry_places i;
        built = false;
        site_places = ss i;
        hub_list = rest.hub_list i;
        rows = rs i;
        entries = es i;
      }

  pub build_exceeding : (v : ℕ) (r : Result ℕ Unfilled) → r ≡ Err (unfilled.NoRoom v) → Filled k g (tables_of b ws) r (tables_of b' ws') → Built k g ws b (Err (NoRoom v)) ws' (with_built false b')
  build_exceeding v r is done =
      let filled = subst (λ o. Filled k g (tables_of b ws) o (tables_of b' ws')) is done in
      exceeding v (record { agreed = agreed; room = filled.0.room; waiting = filled.3 })
      (subst (λ n. LacksRoom k g (hubs_of b) n v) (length-take-le b.entry_places b.entries t.held.3) filled.1)
      refl
      (emptied_now v filled)
