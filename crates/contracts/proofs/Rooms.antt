-- The contracts of the engine that keeps counts permit a single reply from what the rooms hold, whatever that is. They are relations,
-- pointwise where an answer has an array; here each is seen to have one answer. Assumes nothing.
use mathlib.Core.Path.{◌≡◌, sym, ap, ◌∙◌}
use mathlib.Core.List.{List}
use Prim.Native.Nat.{ℕ, ◌<◌}
use native.Mathlib.Omega.{arith}
use lib.Dec.{eqb}
use lib.ListN.{length, get_or, drop}
use lib.Seq.{ext_get_or}
use Rattle.points.specs.Sets.{members_of}
use Rattle.points.proofs.Laws.{same_members}
use Rattle.std.specs.Prelude.{if◌then◌else◌}
use Rattle.plan.specs.Limits.{most_points}
use Rattle.plan.specs.declared.Refusal.{Refusal}
use Rattle.links.specs.declared.Links.{Links}
use Rattle.events.specs.Inside.{event_in}
use Rattle.windows.specs.Inside.{least_at}
use Rattle.windows.specs.declared.Windows.{Windows}
use Rattle.board.specs.declared.Board.{Board}
use Rattle.replies.specs.declared.Reply.{Reply}
use Rattle.planless.specs.ByWindows.{number_by, with_record}
use Rattle.replies.specs.ByWindows.{reply_by}
use Rattle.kept.specs.Rooms.{highs_at, event_done_by}
use Rattle.kept_windows.specs.Answers.{Answered}
use Rattle.engine.specs.Takes.{TableAt, BoardIn, NumbersWith, TakesWith, RepliesWith}

-- two lists of a place for each point that agree at every point are one
one_table : (t t' : List ℕ) → length t ≡ most_points → length t' ≡ most_points → ((q : ℕ) → q < most_points → get_or t q 0 ≡ get_or t' q 0) → t ≡ t'
one_table t t' l l' e = ext_get_or 0 t t' (l ∙ sym l') (λ q h. e q (omega (arith, l)))

module _ (kept : List ℕ) where
  in_table : (at : ℕ) (t t' : List ℕ) → TableAt kept at t → TableAt kept at t' → t ≡ t'
  in_table at t t' x y = one_table t t' x.long y.long (λ q h. x.each q h ∙ sym (y.each q h))

  pub one_board : (b b' : Board) → BoardIn kept b → BoardIn kept b' → b ≡ b'
  one_board b b' x y =
      let t = x.clock ∙ sym y.clock in
      let d = x.done ∙ sym y.done in
      let m = in_table _ b.minutes b'.minutes x.minutes y.minutes in
      let c = in_table _ b.calls b'.calls x.calls y.calls in
      λ i. record { clock = t i; done = d i; minutes = m i; calls = c i }

  module _ (rows out : List ℕ) where
    one_windows : (n watches : ℕ) (w w' : Windows) → Answered rows out kept n watches w → Answered rows out kept n watches w' → w ≡ w'
    one_windows n watches w w' x y =
        let o = same_members w.opens w'.opens x.fits y.fits (λ q h. x.opens q h ∙ sym (y.opens q h)) in
        let h = one_table w.holders w'.holders x.long_holders y.long_holders (λ q k. x.holders q k ∙ sym (y.holders q k)) in
        let l = one_table w.lows w'.lows x.long y.long (λ q k. x.lows q k ∙ sym (y.lows q k)) in
        let g = x.high ∙ ap (λ (s : ℕ). least_at (drop highs_at kept) (members_of s)) o ∙ sym y.high in
        λ i. record { opens = o i; holders = h i; lows = l i; high = g i }

    pub one_reply : (l : Links) (r r' : Reply) → RepliesWith l rows out kept r → RepliesWith l rows out kept r' → r ≡ r'
    one_reply l r r' x y =
        let b = one_board x.board y.board x.holds y.holds in
        let w = one_windows l.points l.watched x.windows y.windows x.answers y.answers in
        let e : reply_by l x.board x.windows ≡ reply_by l y.board y.windows = λ i. reply_by l (b i) (w i) in
        x.found ∙ e ∙ sym y.found

    module _ (l : Links) (s : List ℕ) where
      found : Board → Windows → Refusal
      found b w = with_record l b.done w s (number_by l b.clock b.done b.minutes w s)

      one_number : (r r' : Refusal) → NumbersWith l rows out kept s r → NumbersWith l rows out kept s r' → r ≡ r'
      unfolding found
      one_number r r' x y =
          let b = one_board x.board y.board x.holds y.holds in
          let w = one_windows l.points l.watched x.windows y.windows x.answers y.answers in
          let e : found x.board x.windows ≡ found y.board y.windows = λ i. found (b i) (w i) in
          x.found ∙ e ∙ sym y.found

      module _ (into ends : List ℕ) (r r' : Refusal) (kept' kept'' : List ℕ) (x : TakesWith l rows into out ends kept s r kept') (y : TakesWith l rows into out ends kept s r' kept'') where
        pub one_taken : r ≡ r'
        one_taken = one_number r r' x.numbers y.numbers

        pub one_room : kept' ≡ kept''
        one_room =
            x.after
            ∙ ap (λ (q : Refusal). if eqb q.number 0 then event_done_by rows into out ends (event_in s) kept else kept) one_taken
            ∙ sym y.after
