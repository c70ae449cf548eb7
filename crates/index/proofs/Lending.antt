-- The tables of a book, lent for a filling, and as they come back.
use Rattle.std.proofs.Common.{◌≡◌, ℕ, ◌*◌, ◌≤◌, List, ◌++◌, length, take, drop, Result, sym, refl, ◌∙◌, subst, arith}
use Rattle.std.proofs.lemmas.List.{length-append, length-drop, length-take-le, take-append-drop, take_at, drop_at}
use Rattle.weight.specs.Algebra.{Algebra}
use Rattle.network.specs.Graph.{Graph}
use Rattle.shortest.specs.declared.waiting.Waiting.{Waiting}
use Rattle.filling.specs.Rows.{Spared}
use Rattle.filling.specs.Tables.{memory, Filled}
use Rattle.filling.specs.declared.places.Entry.{Entry}
use Rattle.filling.specs.declared.places.RowPlace.{RowPlace}
use Rattle.filling.specs.declared.places.SitePlace.{SitePlace}
use Rattle.filling.specs.declared.tables.Unfilled.{Unfilled}
use Rattle.index.specs.Books.{BookState, state}
use Rattle.index.specs.Building.{tables_of, RestKept}
use Rattle.index.specs.declared.book.Book.{Book}

-- ---- a part of memory that was lent

module _ {X : Type 0} (xs : List X) (n : ℕ) (ys : List X) (inside : n ≤ length xs) (size : length ys ≡ length (take n xs)) where
  long : length ys ≡ n
  long = size ∙ length-take-le n xs inside

  pub part_back : take n (ys ++ drop n xs) ≡ ys
  part_back = take_at ys (drop n xs) n long

  pub part_spared : Spared n xs (ys ++ drop n xs)
  part_spared = record { size = length-append ys (drop n xs) ∙ omega (arith, long, length-drop n xs); beyond = drop_at ys (drop n xs) n long }

-- ---- the tables of a book

module _ {V : Type 0} (b : Book V) (ss : List (SitePlace V)) (rs : List (RowPlace V)) (es : List (Entry V))
    (site_size : length ss ≡ length (take b.sizes.sites b.site_places.now))
    (row_size : length rs ≡ length (take (b.sizes.hub_places * b.sizes.sites) b.rows.now))
    (entry_size : length es ≡ length (take b.sizes.entry_places b.entries.now)) where
  -- the book with these tables: its hub list was lent with them, and is as it was
  abbrev with_tables : BookState V
  with_tables = record (state b) {
    site_places = ss ++ drop b.sizes.sites b.site_places.now;
    hub_list = take b.sizes.hub_places b.hub_list.now ++ drop b.sizes.hub_places b.hub_list.now;
    rows = rs ++ drop (b.sizes.hub_places * b.sizes.sites) b.rows.now;
    entries = es ++ drop b.sizes.entry_places b.entries.now;
  }

  pub rest_kept : RestKept (state b) with_tables
  rest_kept = record {
    sites = refl;
    hub_places = refl;
    entry_places = refl;
    hub_list = take-append-drop b.sizes.hub_places b.hub_list.now;
    site_places = part_spared b.site_places.now b.sizes.sites ss b.held.0 site_size;
    rows = part_spared b.rows.now (b.sizes.hub_places * b.sizes.sites) rs b.held.2 row_size;
    entries = part_spared b.entries.now b.sizes.entry_places es b.held.3 entry_size;
  }

  pub filled_back : (k : Algebra V) (g : Graph V) (ws ws' : List (Waiting V)) (r : Result ℕ Unfilled)
      → Filled k g (tables_of (state b) ws) r (memory (take b.sizes.hub_places b.hub_list.now) ss rs es ws') → Filled k g (tables_of (state b) ws) r (tables_of with_tables ws')
  filled_back k g ws ws' r h =
      subst (λ m. Filled k g (tables_of (state b) ws) r m)
      (λ i. memory (take b.sizes.hub_places (sym rest_kept.hub_list i)) (sym (part_back b.site_places.now b.sizes.sites ss b.held.0 site_size) i)
      (sym (part_back b.rows.now (b.sizes.hub_places * b.sizes.sites) rs b.held.2 row_size) i) (sym (part_back b.entries.now b.sizes.entry_places es b.held.3 entry_size) i) ws')
      h
