-- THE COMMANDS OF A PAGE, one after another.
--   put_command     whatever the state is, a command leaves a text at the start of its line, and the rest as it was
--   put_behind      what is put at the start of the rest of a buffer is put behind its front
--   two_ahead       two bytes and what follows them
--   Playing         up to here: the text of the page, and what it means for the whole
--   playing_none    no command yet
--   playing_full    a page that is handed on, since it may have no room for the next line
--   playing_done    the page of a session that is over: what is left says nothing
--   playing_over    fewer than two bytes are left
--   text_put        a command leaves a text at the start of the page, and the rest as it was
--   playing_on      one command more
--   playing_ended   the session is over at command 0
-- Assumes nothing.
use mathlib.Core.Path.{◌≡◌, sym, ap, ap₂, ◌∙◌, subst}
use mathlib.Core.Bool.{true, false, true≢false}
use mathlib.Core.Logic.{inl, inr}
use mathlib.Core.List.{List, [], ◌∷◌, ◌++◌, append-nil}
use lib.ListN.{length, take, drop, get_or, length-append, length-take, length-drop, take-append-drop}
use Prim.Native.Nat.{ℕ, suc, ◌+◌, ◌-◌, ◌≤◌, ◌<◌}
use native.Mathlib.Omega.{arith}
use Rattle.std.proofs.Math.Seq.{take-append-add, drop-append-add, drop-cons}
use lib.Seq.{drop-drop}
use Rattle.gf2.specs.Answers.{Position}
use Rattle.judge.specs.declared.Header.{Header}
use Rattle.lines.specs.Lines.{Put}
use Rattle.lines.proofs.Puts.{counted, put_none, put_text, put_then}
use Rattle.parity.specs.Promises.{Stands}
use Rattle.dialogue.specs.declared.Step.{Step}
use Rattle.dialogue.specs.Dialogue.{command_of}
use Rattle.dialogue.specs.Steps.{Turns, ends, assumes, backs, explains}
use Rattle.play.specs.Session as session
use Rattle.play.specs.Session.{Command, Commands}
use Rattle.play.specs.Pages.{Roomy, Continued, Paged, Appended}
use Rattle.play.proofs.Continuing.{so_far_whole, so_far_more, continued_on}
use Rattle.play.proofs.Answering.{EndedOrSaid, command_said}

pub put_command : {h : Header} {work literals rows line : List ℕ} {command : ℕ} {step : Step} {work' literals' rows' line' : List ℕ}
    → Turns h work literals rows line command step work' literals' rows' line' → Put line 0 (take step.end line') line' step.end
put_command {line = line} (ends e) = put_none line 0 (omega arith)
put_command (assumes e t) = put_text t.says (sym t.says.front)
put_command (backs e t) = put_text t.says (sym t.says.front)
put_command (explains e t) = put_text t.says (sym t.says.front)

pub put_behind : {page t line' : List ℕ} {at end : ℕ} → at ≤ length page → Put (drop at page) 0 t line' end
    → Put page at t (take at page ++ line') (at + end)
put_behind {page} {t} {line'} {at} {end} h f =
    let l : length (take at page) ≡ at = omega (arith, length-take at page) in
    let whole : length (take at page ++ line') ≡ length page =
    omega (arith, length-append (take at page) line', length-take at page, length-drop at page, f.room) in
    let front : take (at + end) (take at page ++ line') ≡ take at page ++ t =
    ap (λ (i : ℕ). take (i + end) (take at page ++ line')) (sym l) ∙ take-append-add (take at page) line' end
    ∙ ap (λ (z : List ℕ). take at page ++ z) f.front in
    let rest : drop (at + end) (take at page ++ line') ≡ drop (at + end) page =
    ap (λ (i : ℕ). drop (i + end) (take at page ++ line')) (sym l) ∙ drop-append-add (take at page) line' end ∙ f.rest ∙ drop-drop end at page in
    let counts = f.counts in
    record {
      next = omega (arith, f.next);
      room = whole;
      front = front;
      rest = rest;
      counts = counted (at + end) (take at page ++ line') (let c = counts.0 in omega (arith, whole, length-append (take at page) line', l));
    }

pub two_ahead : (s : List ℕ) (at : ℕ) → at + 2 ≤ length s → drop at s ≡ get_or s at 0 ∷ get_or s (at + 1) 0 ∷ drop (at + 2) s
two_ahead s at h =
    let i : suc at ≡ at + 1 = omega arith in
    let j : suc (suc at) ≡ at + 2 = omega arith in
    drop-cons s at 0 (omega arith)
    ∙ ap (λ (z : List ℕ). get_or s at 0 ∷ z) (drop-cons s (suc at) 0 (omega arith))
    ∙ ap₂ (λ (i j : ℕ). get_or s at 0 ∷ get_or s i 0 ∷ drop j s) i j

-- the page says what a text of P begins with, and the commands that follow from there say the rest of it
pub record Playing (s : List ℕ) (first : ℕ) (opened : Header) (work₀ page₀ : List ℕ)
    (at : ℕ) (h : Header) (end : ℕ) (work page : List ℕ) : Type 0 where
  pub since : first ≤ at
  pub within : at ≤ length s
  pub put : Put page₀ 0 (take end page) page end
  pub continued : (p : Position) → Stands opened work₀ p → Continued (Commands p (drop first s)) s at h work (take end page)

pub playing_none : (s : List ℕ) (first : ℕ) (opened : Header) (work page : List ℕ) → first ≤ length s
    → Playing s first opened work page first opened 0 work page
playing_none s first opened work page l = record {
  since = omega arith;
  within = l;
  put = put_none page 0 (omega arith);
  continued = λ p st. record { position = p; stands = st; after = λ more cs. cs };
}

module _ {s : List ℕ} {first : ℕ} {opened : Header} {work₀ page₀ : List ℕ} {at : ℕ} {h : Header} {end : ℕ} {work page : List ℕ}
    (q : Playing s first opened work₀ page₀ at h end work page) where
  pub playing_full : (p : Position) → Stands opened work₀ p
      → Paged (Commands p (drop first s)) s (record { at = at; header = h; end = end; more = true }) work page₀ page
  playing_full p st = record { put = q.put; so_far = so_far_more q.within (q.continued p st) }

  -- where the commands that are left say nothing
  playing_done : ((r : Position) → Commands r (drop at s) []) → {work' : List ℕ} (p : Position) → Stands opened work₀ p
      → Paged (Commands p (drop first s)) s (record { at = at; header = h; end = end; more = false }) work' page₀ page
  playing_done none p st =
      let c = q.continued p st in
      record { put = q.put; so_far = so_far_whole q.within (subst (Commands p (drop first s)) (append-nil (take end page)) (c.after [] (none c.position))) }

  pub playing_over : length s - at < 2 → (p : Position) → Stands opened work₀ p
      → Paged (Commands p (drop first s)) s (record { at = at; header = h; end = end; more = false }) work page₀ page
  playing_over l = playing_done (λ r. session.over (omega (arith, length-drop at s)))

  module _ {literals rows work' literals' rows' page' : List ℕ} {command : ℕ} {step : Step}
      (a : Appended h work literals rows page end command step work' literals' rows' page') where
    -- the text of the page is what it was, and then what was said
    text_on : {t : List ℕ} → Put (drop end page) 0 t a.line' a.end → Put page₀ 0 (take end page ++ t) page' step.end
    text_on f = rw (a.joined, a.ends) (put_then q.put (put_behind q.put.counts.0 f))

    pub text_put : Put page₀ 0 (take step.end page') page' step.end
    text_put = let f = text_on (put_command a.turns) in put_text f (sym f.front)

    module _ (here : command ≡ command_of (get_or s at 0) (get_or s (at + 1) 0)) (two : at + 2 ≤ length s) (roomy : Roomy work literals rows page) where
      pub playing_on : step.more ≡ true → Playing s first opened work₀ page₀ (at + 2) step.header step.end work' page'
      playing_on more = record {
        since = let f = q.since in omega arith;
        within = two;
        put = text_put;
        continued = λ p st. let c = q.continued p st in go c (command_said c.stands roomy a.turns);
      }
        where
          go : {P : List ℕ → Type 0} (c : Continued P s at h work (take end page))
              → EndedOrSaid c.position command (record { header = step.header; end = a.end; more = step.more }) (drop end page) work' a.line'
              → Continued P s (at + 2) step.header work' (take step.end page')
          go c (inl e) = absurd (true≢false (sym more ∙ e.2))
          go c (inr t) =
              rw (text_on t.put).front
              (continued_on c
              (record {
                position = t.next;
                stands = t.stands;
                after = λ rest cs. rw (two_ahead s at two) (session.then (rw here at t.answered) cs);
              }))

      pub playing_ended : step.more ≡ false → (p : Position) → Stands opened work₀ p
          → Paged (Commands p (drop first s)) s (record { at = at; header = h; end = end; more = false }) work' page₀ page'
      playing_ended more p st = go (command_said (q.continued p st).stands roomy a.turns)
        where
          go : EndedOrSaid (q.continued p st).position command (record { header = step.header; end = a.end; more = step.more }) (drop end page) work' a.line'
              → Paged (Commands p (drop first s)) s (record { at = at; header = h; end = end; more = false }) work' page₀ page'
          go (inr t) = absurd (true≢false (sym t.more ∙ more))
          go (inl e) =
              let same : page' ≡ page = a.joined ∙ ap (λ (z : List ℕ). take end page ++ z) e.1 ∙ take-append-drop end page in
              rw same (playing_done (λ r. rw (two_ahead s at two) (session.ended (rw here at e.0))) p st)
