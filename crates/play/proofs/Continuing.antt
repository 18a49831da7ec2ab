-- HOW FAR A SESSION HAS COME: the laws of `Continued` and `SoFar`.
--   so_far_whole   the session is over, and the text is the whole
--   so_far_more    more may follow
--   continued_on   where more may follow a text, and more again what followed it, more may follow the two
--   so_far_on      where more may follow a text, and what followed it goes so far, the two go so far
-- Assumes nothing.
use mathlib.Core.Path.{sym, subst}
use mathlib.Core.Bool.{true, false, true≢false}
use mathlib.Core.List.{List, ◌++◌, append_assoc}
use Prim.Native.Nat.{ℕ, ◌≤◌}
use lib.ListN.{length, drop}
use Rattle.judge.specs.declared.Header.{Header}
use Rattle.play.specs.declared.Progress.{Progress}
use Rattle.play.specs.Session.{Commands}
use Rattle.play.specs.Pages.{Continued, SoFar}

module _ {P : List ℕ → Type 0} {s : List ℕ} {at : ℕ} {h : Header} {work text : List ℕ} where
  pub so_far_whole : {end : ℕ} → at ≤ length s → P text → SoFar P s (record { at = at; header = h; end = end; more = false }) work text
  so_far_whole l t = record { within = l; whole = λ e. t; continued = λ e. absurd (true≢false (sym e)) }

  pub so_far_more : {end : ℕ} → at ≤ length s → Continued P s at h work text
      → SoFar P s (record { at = at; header = h; end = end; more = true }) work text
  so_far_more l c = record { within = l; whole = λ e. absurd (true≢false e); continued = λ e. c }

  pub continued_on : {next : ℕ} {h' : Header} {work' more : List ℕ} (c : Continued P s at h work text)
      → Continued (Commands c.position (drop at s)) s next h' work' more → Continued P s next h' work' (text ++ more)
  continued_on {more = more} c d = record {
    position = d.position;
    stands = d.stands;
    after = λ rest cs. subst P (sym (append_assoc text more rest)) (c.after (more ++ rest) (d.after rest cs));
  }

  pub so_far_on : {r : Progress} {work' more : List ℕ} (c : Continued P s at h work text) → SoFar (Commands c.position (drop at s)) s r work' more
      → SoFar P s r work' (text ++ more)
  so_far_on {more = more} c f = record { within = f.within; whole = λ e. c.after more (f.whole e); continued = λ e. continued_on c (f.continued e) }
