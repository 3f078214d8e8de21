-- A walk that goes on with the reference that a move stored and with the roots of its thread.
use Rattle.std.proofs.Common.{ℕ, ◌≡◌, ◌≢◌, ◌⊎◌, inl, inr, List, length, slice_index, sym, ap, subst, ◌∙◌}
use Rattle.lemmas.specs.Lists.{IsIn}
use Rattle.pools.specs.Heap.{Setup}
use Rattle.runs.specs.Machine.{WordValue}
use Rattle.moves.specs.declared.shared.Shared.{Shared}
use Rattle.moves.specs.Rows.{word_at}
use Rattle.stepping.specs.declared.walk.Walk.{Walk}
use Rattle.stepping.specs.Walks.{following, following_first, IsSeen, AreSeen, IsShaped, IsLooked, IsNearlyClosed}
use Rattle.stepping.proofs.Meetings.{Widens, Meets, met-none, Any, meets-following, meets-first, meets-both, widens-meets, stays-meets, seen-following}
use Rattle.stepping.proofs.Wholes.{shaped-meets, listed-meets, recorded-meets, roots-seen}

-- the walk before it looks into cells
abbrev pub gone_on : Shared → (own : List WordValue) (stored : WordValue) → Walk → Walk
gone_on h own stored w = following_first h own (following h w stored) (length own)

pub gone_on-by : (h : Shared) (own : List WordValue) (stored : WordValue) (w first last : Walk) → first ≡ following h w stored → last ≡ following_first h own first (length own) → last ≡ gone_on h own stored w
gone_on-by h own stored w first last e f = f ∙ ap (λ (v : Walk). following_first h own v (length own)) e

module _ (h : Shared) (own : List WordValue) (stored : WordValue) (w : Walk) where
  meets-on : Meets h Any w (gone_on h own stored w)
  meets-on =
      meets-both h Any w (following h w stored) (meets-following h Any w w stored (λ n. tt) met-none) (gone_on h own stored w)
      (meets-first h Any (following h w stored) own (length own) (λ place lt n. tt))

  pub shaped-on : (cells : ℕ) → IsShaped cells w → IsShaped cells (gone_on h own stored w)
  shaped-on cells shaped = shaped-meets cells h Any w shaped (gone_on h own stored w) meets-on

  pub widens-on : Widens w (gone_on h own stored w)
  widens-on = widens-meets h Any w (gone_on h own stored w) meets-on

  pub stays-on : (r : WordValue) → IsSeen h w r → IsSeen h (gone_on h own stored w) r
  stays-on r was = stays-meets h Any w r was (gone_on h own stored w) meets-on

  stored-seen : stored.cell ≢ 0 → IsSeen h (gone_on h own stored w) stored
  stored-seen n =
      stays-meets h Any (following h w stored) stored (seen-following h w stored n) (gone_on h own stored w)
      (meets-first h Any (following h w stored) own (length own) (λ place lt m. tt))

  module _ (s : Setup) (roots : List WordValue) (near : IsNearlyClosed s h roots own stored w) where
    either : (r : WordValue) → r.cell ≢ 0 → IsSeen h w r ⊎ (r ≡ stored) → IsSeen h (gone_on h own stored w) r
    either r n (inl seen) = stays-on r seen
    either r n (inr is) = subst (λ (q : WordValue). q.cell ≢ 0 → IsSeen h (gone_on h own stored w) q) (sym is) stored-seen n

    -- what the words of the cells that were met before hold is seen
    pub looked-on : IsLooked s h (gone_on h own stored w) (length w.order)
    looked-on = record {
      listed = listed-meets h Any w near.listed (gone_on h own stored w) meets-on;
      free = recorded-meets h Any w near.free (gone_on h own stored w) meets-on;
      words_seen = λ place lt. subst (λ c. AreSeen s h (gone_on h own stored w) c) (sym (widens-on.same place lt))
          (λ word is n. either (word_at h.words (slice_index w.order place) word) n (near.words_seen place lt word is n));
    }

    -- and so are the roots
    pub roots-on : (r : WordValue) → IsIn r roots → r.cell ≢ 0 → IsSeen h (gone_on h own stored w) r
    roots-on r is_in n = go (near.roots_seen r is_in n)
      where
        go : IsSeen h w r ⊎ IsIn r own → IsSeen h (gone_on h own stored w) r
        go (inl seen) = stays-on r seen
        go (inr of_own) = roots-seen s h own (following h w stored) r of_own n
