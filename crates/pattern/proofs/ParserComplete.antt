-- The parser reads every source that a tree derives, as that tree. Assumes nothing.
use mathlib.Core.Path.{◌≡◌, refl, ap, ◌∙◌}
use mathlib.Core.List.{List, [], ◌∷◌, ◌++◌, append_assoc, append-nil}
use mathlib.Core.Logic.{◌↔◌}
use mathlib.Core.Option.{Option, none, some}
use Prim.Native.Nat.{ℕ}
use native.Mathlib.Omega.{arith}
use Rattle.pattern.specs.Bytes.{Bytes, between}
use Rattle.pattern.specs.Syntax.{Sort, pattern, atom, body, branches, Syntax, last, then, repeat, codes, literal, group, only, or}
use Rattle.pattern.specs.Meaning.{Cut}
use Rattle.pattern.specs.Grammar.{BodyStart, letter, quote, opening, CountChar, digit, point, count_char, body_start, char_class, literal_class, Number, Low, missing, given, Count, exact, from, range, Letters, Quoted, start as opened, byte, quote as doubled, Derives}
use Rattle.pattern.specs.Parser.{empty, first, pointed, second, Phase, counting, inside, after, Stack, top, within, chain, fork, next, ParserState, enter, extend, leave, quoted, grow, counted, move, step, finish, read_from, start, read}
use Rattle.pattern.specs.ParserInvariant.{state_after, AtomsBefore, BranchesBefore, AtBranchStart, CountSoFar, StackSoFar, ReadSoFar}
use Rattle.pattern.proofs.ParserSound.{read_on, read_after, reached_derives}

-- the state after a pattern
unfoldable pub after_pattern : Stack → Syntax pattern → ParserState
after_pattern k (last (repeat low high b)) = (after low high b, k)
after_pattern k (then a p) = after_pattern (next k a) p

-- the bytes lead from one state to another
pub record Leads (q : ParserState) (w : Bytes) (q' : ParserState) : Type 0 where
  pub to : state_after q w ≡ some q'

pub by_step : {q q' : ParserState} (c : ℕ) → step q c ≡ some q' → Leads q (c ∷ []) q'
unfolding state_after
by_step c e = record { to = rw (e, state_after) }

-- the state after more bytes, from a state if there is one
unfoldable pub state_on : Option ParserState → Bytes → Option ParserState
state_on none w = none
state_on (some q) w = state_after q w

pub state_append : (v : Bytes) (q : ParserState) (w : Bytes) → state_after q (v ++ w) ≡ state_on (state_after q v) w
unfolding state_after state_on
state_append [] q w = refl
state_append (c ∷ v) q w = go (step q c) (λ x. state_append v x w)
  where
    go : (o : Option ParserState) → ((x : ParserState) → state_after x (v ++ w) ≡ state_on (state_after x v) w)
        → elim o [ none ↦ none | some x ↦ state_after x (v ++ w) ] ≡ state_on (elim o [ none ↦ none | some x ↦ state_after x v ]) w
    go none f = refl
    go (some x) f = f x

infixl 20 ◌⨾◌
pub ◌⨾◌ : {q q' q'' : ParserState} {v w : Bytes} → Leads q v q' → Leads q' w q'' → Leads q (v ++ w) q''
unfolding state_on
◌⨾◌ {q = q} {v = v} {w = w} a b = record { to = state_append v q w ∙ ap (λ o. state_on o w) a.to ∙ b.to }

-- so what is read from there on is read from here on
pub reads_on : {q q' : ParserState} {w : Bytes} → Leads q w q' → (rest : Bytes) → read_from q (w ++ rest) ≡ read_from q' rest
unfolding read_on
reads_on {q} {w = w} h rest = read_after w q rest ∙ ap (λ o. read_on o rest) h.to

-- an atom may begin in the state, with this stack
record AtomMayBegin (q : ParserState) (k : Stack) : Type 0 where
  on : (m : CountChar) (c : ℕ) → char_class c ≡ count_char m → step q c ≡ counted k (grow empty m c)

-- a body may begin in the state
record Enters (q : ParserState) (low : ℕ) (high : Option ℕ) (k : Stack) : Type 0 where
  on : (b : BodyStart) (c : ℕ) → char_class c ≡ body_start b → step q c ≡ some (enter low high k b c)

ready : (k : Stack) → AtomMayBegin (counting empty, k) k
unfolding step move
ready k = record { on = λ m c e. rw e }

ready_next : (low : ℕ) (high : Option ℕ) (b : Syntax body) (k : Stack) → AtomMayBegin (after low high b, k) (next k (repeat low high b))
unfolding step move
ready_next low high b k = record { on = λ m c e. rw e }

first_leads : {q : ParserState} {k : Stack} {n : ℕ} {w : Bytes} → AtomMayBegin q k → Number n w → Leads q w (counting (first n), k)
unfolding step move grow counted
first_leads r (Number.one c d) = by_step c (r.on digit c d)
first_leads r (Number.more h c d) = first_leads r h ⨾ by_step c (rw d)

low_leads : {q : ParserState} {k : Stack} {n : ℕ} {w : Bytes} → AtomMayBegin q k → Low n w → Leads q (w ++ 46 ∷ []) (counting (pointed n), k)
unfolding step move grow counted char_class between
low_leads r missing = by_step 46 (r.on point 46 refl)
low_leads r (given h) = first_leads r h ⨾ by_step 46 refl

second_leads : {k : Stack} {n m : ℕ} {w : Bytes} → Number m w → Leads (counting (pointed n), k) w (counting (second n m), k)
unfolding step move grow counted
second_leads (Number.one c d) = by_step c (rw d)
second_leads (Number.more h c d) = second_leads h ⨾ by_step c (rw d)

-- after a count a body may begin
record CountLeads (q : ParserState) (w : Bytes) (low : ℕ) (high : Option ℕ) (k : Stack) : Type 0 where
  to : ParserState
  leads : Leads q w to
  enters : Enters to low high k

count_leads : {q : ParserState} {k : Stack} {low : ℕ} {high : Option ℕ} {w : Bytes} → AtomMayBegin q k → Count low high w → CountLeads q w low high k
unfolding step move
count_leads {k} r (exact {n} h) = record { to = (counting (first n), k); leads = first_leads r h; enters = record { on = λ b c d. rw d } }
count_leads {k} r (from {n} h) = record { to = (counting (pointed n), k); leads = low_leads r h; enters = record { on = λ b c d. rw d } }
count_leads {k} r (range {n} {m} {s} {w} h g) = record {
  to = (counting (second n m), k);
  leads = rw append_assoc at (low_leads r h ⨾ second_leads g);
  enters = record { on = λ b c d. rw d };
}

letters_lead : {q : ParserState} {low : ℕ} {high : Option ℕ} {k : Stack} {set : ℕ} {w : Bytes} → Enters q low high k → Letters set w → Leads q w (after low high (codes set), k)
unfolding step move enter extend
letters_lead r (Letters.one c d) = by_step c (r.on letter c d)
letters_lead r (Letters.more h c d) = letters_lead r h ⨾ by_step c (rw d)

quoted_leads : {q : ParserState} {low : ℕ} {high : Option ℕ} {k : Stack} {value : Bytes} {w : Bytes} → Enters q low high k → Quoted value w → Leads q w (inside low high value, k)
unfolding step move enter extend quoted char_class between literal_class
quoted_leads r opened = by_step 34 (r.on quote 34 refl)
quoted_leads r (byte h c d) = quoted_leads r h ⨾ by_step c (rw d)
quoted_leads r (doubled h) = rw append_assoc at (quoted_leads r h ⨾ by_step 34 refl ⨾ by_step 34 refl)

pub ended_closes : (k : Stack) (low : ℕ) (high : Option ℕ) (others : List (Syntax pattern)) (p : Syntax pattern) (before : List (Syntax atom))
    → step (after_pattern (within k low high others before) p) 41 ≡ some (after low high (group (fork others (only (chain before p)))), k)
unfolding after_pattern step move char_class between leave next chain
ended_closes k low high others (last (repeat l h b)) before = refl
ended_closes k low high others (then a p) before = ended_closes k low high others p (a ∷ before)

pub ended_parts : (k : Stack) (low : ℕ) (high : Option ℕ) (others : List (Syntax pattern)) (p : Syntax pattern) (before : List (Syntax atom))
    → step (after_pattern (within k low high others before) p) 44 ≡ some (counting empty, within k low high (chain before p ∷ others) [])
unfolding after_pattern step move char_class between leave next chain
ended_parts k low high others (last (repeat l h b)) before = refl
ended_parts k low high others (then a p) before = ended_parts k low high others p (a ∷ before)

ended_finishes : (p : Syntax pattern) (before : List (Syntax atom)) → read_from (after_pattern (top before) p) [] ≡ some (chain before p)
unfolding after_pattern read_from finish next chain
ended_finishes (last (repeat l h b)) before = refl
ended_finishes (then a p) before = ended_finishes p (a ∷ before)

-- where the source of a tree leads
abbrev Follows : {s : Sort} → Syntax s → Bytes → Type 0
Follows {s = pattern} p w = (q : ParserState) (k : Stack) → AtomMayBegin q k → Leads q w (after_pattern k p)
Follows {s = atom} a w = (q : ParserState) (k : Stack) → AtomMayBegin q k → Leads q w (after_pattern k (last a))
Follows {s = body} b w = (q : ParserState) (low : ℕ) (high : Option ℕ) (k : Stack) → Enters q low high k → Leads q w (after low high b, k)
Follows {s = branches} bs w = (q : ParserState) (k : Stack) (low : ℕ) (high : Option ℕ) (others : List (Syntax pattern)) → AtomMayBegin q (within k low high others [])
    → Leads q (w ++ 41 ∷ []) (after low high (group (fork others bs)), k)

follows : {s : Sort} (x : Syntax s) (w : Bytes) → Derives x w → Follows x w
unfolding Derives Cut after_pattern step enter move quoted literal_class char_class between chain fork
follows (last a) w h = follows a w h
follows (then (repeat low high b) p) w (x, y, e, h, g) = λ q k r.
    rw e (follows (repeat low high b) x h q k r ⨾ follows p y g (after low high b, k) (next k (repeat low high b)) (ready_next low high b k))
follows (repeat low high b) w (x, y, e, h, g) = λ q k r.
    let t = count_leads r h in
    rw e (t.leads ⨾ follows b y g t.to low high k t.enters)
follows (codes set) w h = λ q low high k r. letters_lead r h
follows (literal value) w (x, e, h) = λ q low high k r. rw e (quoted_leads r h ⨾ by_step 34 refl)
follows (group bs) w (x, e, h) = λ q low high k r.
    rw e (by_step 40 (r.on opening 40 refl) ⨾ follows bs x h (counting empty, within k low high [] []) k low high [] (ready (within k low high [] [])))
follows (only p) w h = λ q k low high others r. follows p w h q (within k low high others []) r ⨾ by_step 41 (ended_closes k low high others p [])
follows (or p bs) w (x, y, e, h, g) = λ q k low high others r.
    let z : Stack = within k low high (p ∷ others) [] in
    rw (e, append_assoc) (follows p x h q (within k low high others []) r ⨾ (by_step 44 (ended_parts k low high others p []) ⨾ follows bs y g (counting empty, z) k low high (p ∷ others) (ready z)))

-- a source that a tree derives is read as that tree
pub complete : (t : Syntax pattern) (s : Bytes) → Derives t s → read s ≡ some t
unfolding read chain
complete t s h = rw append-nil at (reads_on (follows t s h start (top []) (ready (top []))) []) ∙ ended_finishes t []

-- ---- states

-- after what stands before an atom, the atom may begin
record Reached (k : Stack) (u : Bytes) : Type 0 where
  at : ParserState
  leads : Leads start u at
  ready : AtomMayBegin at k

all_before : (before : List (Syntax atom)) (k : List (Syntax atom) → Stack) → ((xs : List (Syntax atom)) (a : Syntax atom) → next (k xs) a ≡ k (a ∷ xs))
    → (u w : Bytes) → Reached (k []) u → AtomsBefore before w → Reached (k before) (u ++ w)
unfolding AtomsBefore Cut after_pattern
all_before [] k n u w r e = rw (e, append-nil) r
all_before (repeat low high b ∷ before) k n u w r (x, y, e, h, s) =
    let g = all_before before k n u x r h in
    let z : Reached (next (k before) (repeat low high b)) ((u ++ x) ++ y) =
    record { at = (after low high b, k before); leads = g.leads ⨾ follows (repeat low high b) y s g.at (k before) g.ready; ready = ready_next low high b (k before) } in
    rw (e, ← n before (repeat low high b)) (rw append_assoc at z)

all_others : (k : Stack) (low : ℕ) (high : Option ℕ) (others : List (Syntax pattern)) (u w : Bytes)
    → Leads start u (counting empty, within k low high [] []) → BranchesBefore others w → Leads start (u ++ w) (counting empty, within k low high others [])
unfolding BranchesBefore chain
all_others k low high [] u w r e = rw (e, append-nil) r
all_others k low high (p ∷ others) u w r (x, y, e, o, s) =
    let i : Stack = within k low high others [] in
    let g = all_others k low high others u x r o in
    let z = g ⨾ follows p y s (counting empty, i) i (ready i) ⨾ by_step 44 (ended_parts k low high others p []) in
    rw e (simp append_assoc (simp append_assoc at z))

-- a group opens
opened_group : (k : Stack) (low : ℕ) (high : Option ℕ) (others : List (Syntax pattern)) (x y z : Bytes) → Reached k x → Count low high y → BranchesBefore others z
    → Leads start (x ++ y ++ 40 ∷ z) (counting empty, within k low high others [])
unfolding enter char_class between
opened_group k low high others x y z r c o =
    let t = count_leads r.ready c in
    let g = all_others k low high others _ z (r.leads ⨾ t.leads ⨾ by_step 40 (t.enters.on opening 40 refl)) o in
    simp append_assoc (simp append_assoc at g)

reached : (k : Stack) (u : Bytes) → StackSoFar k u → Reached k u
unfolding StackSoFar next state_after
reached (top before) u b = all_before before top (λ xs a. refl) [] u (record { at = start; leads = record { to = refl }; ready = ready (top []) }) b
reached (within k low high others before) u (x, y, z, w, e, s, c, o, b) =
    let i : Stack = within k low high others [] in
    let g = opened_group k low high others x y z (reached k x s) c o in
    rw e (simp append_assoc (simp append_assoc at (all_before before (within k low high others) (λ xs a. refl) _ w (record { at = (counting empty, i); leads = g; ready = ready i }) b)))

-- the bytes that a state stands for lead to it
read_leads : (p : Phase) (k : Stack) (u : Bytes) → ReadSoFar p k u → Leads start u (p, k)
unfolding ReadSoFar Cut CountSoFar StackSoFar AtomsBefore AtBranchStart after_pattern state_after
read_leads (counting empty) (top []) u (x, y, e, s, (f, o)) = rw (e, f, s) (record { to = refl })
read_leads (counting empty) (top (a ∷ before)) u (x, y, e, s, (f, o)) = absurd (let z : ◌≡◌ {A = ℕ} 0 1 = cc in omega arith)
read_leads (counting empty) (within k low high others []) u (x, y, e, (v, w, z, t, g, s, c, o, b), (f, h)) =
    rw (e, f, g, b) (simp append-nil (opened_group k low high others v w z (reached k v s) c o))
read_leads (counting empty) (within k low high others (a ∷ before)) u (x, y, e, s, (f, o)) = absurd (let z : ◌≡◌ {A = ℕ} 0 1 = cc in omega arith)
read_leads (counting (first n)) k u (x, y, e, s, h) = let r = reached k x s in rw e (r.leads ⨾ first_leads r.ready h)
read_leads (counting (pointed n)) k u (x, y, e, s, (z, f, h)) = let r = reached k x s in rw (e, f) (r.leads ⨾ low_leads r.ready h)
read_leads (counting (second n m)) k u (x, y, e, s, (z, w, f, h, g)) =
    let r = reached k x s in
    rw (e, f) (r.leads ⨾ (rw append_assoc at (low_leads r.ready h ⨾ second_leads g)))
read_leads (inside low high value) k u (x, y, e, s, (z, w, f, c, q)) =
    let r = reached k x s in
    let t = count_leads r.ready c in
    rw (e, f) (r.leads ⨾ (t.leads ⨾ quoted_leads t.enters q))
read_leads (after low high b) k u (x, y, e, s, h) =
    let r = reached k x s in
    rw e (r.leads ⨾ follows (repeat low high b) y h r.at k r.ready)

-- the parser is in a state just after the bytes that the state stands for
pub state_exactly : (u : Bytes) (q : ParserState) → (state_after start u ≡ some q) ↔ ReadSoFar q.0 q.1 u
state_exactly u q = (λ e. rw e at (reached_derives u), λ h. (read_leads q.0 q.1 u h).to)
