-- From what follows the first word to the whole line.
use Rattle.std.proofs.Common.{◌≡◌, ℕ, List, [], drop, IsErrAnd, Some, None, Ok, Err, Option, Result, sym, refl, ap, ◌∙◌, subst, arith, MatchResult}
use Rattle.replay.specs.declared.command.Command.{Command}
use Rattle.replay.specs.declared.command.Fault.{Fault}
use Rattle.replay.specs.declared.words.Verb.{Verb}
use Rattle.replay.specs.declared.words.Verb.TheVariants.{Measure, Admit, Limiter, Position}
use Rattle.replay.specs.declared.words.Choice.{Choice}
use Rattle.replay.specs.declared.words.Choice.TheVariants.{Allow, Reset, Set, Get}
use Rattle.replay.specs.Arguments.{Took}
use Rattle.replay.specs.Commands.{Says, Read, Reads, Understood, Refused}
use Rattle.script.specs.Cuts.{before, Cut}
use Rattle.script.specs.Escapes.{WellFormed, Means}
use Rattle.replay.specs.Faults.{Stops, Faulty, no_command, argument}
use Rattle.replay.specs.Forms.{Form, form, opening, arguments, head, after, form_of, due}
use Rattle.replay.specs.Grammar.{as_is, Phrase, next, Spells}
use Rattle.replay.specs.Orders.{Order, word, parts}
use Rattle.script.proofs.Bytes.{no_byte_nil}
use Rattle.replay.specs.Words.{verb, choice}
use Rattle.replay.proofs.Laws.{parted, unique, faulty_spells}
use Rattle.replay.proofs.Tables.{verb_word, choice_word, verb_is, choice_is}
use Rattle.replay.proofs.Taking.{passed}

-- a well-formed text means what it spells
pub means_all : {raw : List ℕ} (w : WellFormed raw) → Means raw w.0
means_all w = record { left = []; spelt = w.1; ends = no_byte_nil }

-- the next word, where it is a choice
pub chosen : (rest left : Option (List ℕ)) (k : Choice) → choice (head rest) ≡ Some k → left ≡ after rest → Took (word (choice_word k)) rest left
chosen None left k e d = absurd (grind arith)
chosen (Some line) left k e d = record { line = line; from = refl; spelled = as_is (choice_is _ k e); to = d }

opens : (v : Verb) (k : Option Choice) → opening (form_of v k) ≡ verb_word v
opens Measure k = refl
opens Admit k = refl
opens Limiter None = refl
opens Limiter (Some Allow) = refl
opens Limiter (Some Reset) = refl
opens Limiter (Some Set) = refl
opens Limiter (Some Get) = refl
opens Position None = refl
opens Position (Some Allow) = refl
opens Position (Some Reset) = refl
opens Position (Some Set) = refl
opens Position (Some Get) = refl

pub refused : {line : List ℕ} {f : Fault} → Faulty line f → Refused line f
refused h = record { because = h; nothing = faulty_spells h }

-- a line whose first word begins no command
pub not_due : {line w : List ℕ} {rest : Option (List ℕ)} {f : Fault} → Cut 32 line w rest → verb w ≡ Err f → Refused line f
not_due {line} {f = f} cut e = let told : verb (before 32 line) ≡ Err f = ap verb (sym cut.front_is) ∙ e in refused (no_command (simp told))

-- a line whose first word begins a command of the form
pub lifted : {line w : List ℕ} {rest : Option (List ℕ)} (r : Result Command Fault) (v : Verb) → Cut 32 line w rest → verb w ≡ Ok v → Reads (form_of v (choice (head rest))) rest r → MatchResult r (λ c. Understood line c) (λ f. Refused line f)
lifted {line} {w} {rest} r v cut e h = by r h
  where
    told : verb (before 32 line) ≡ Ok v
    told = ap verb (sym cut.front_is) ∙ e

    is : due line ≡ Ok (form_of v (choice (head rest)))
    is = simp (told, cut.rest_is)

    by : (r : Result Command Fault) → Reads (form_of v (choice (head rest))) rest r → MatchResult r (λ c. Understood line c) (λ f. Refused line f)
    by (Ok c) h =
        let o = h.order in
        let at : before 32 line ≡ opening (form o) = verb_is _ v told ∙ sym (opens v (choice (head rest))) ∙ ap opening (sym h.form_is) in
        let spelled : Spells line o = subst (λ ps. Phrase ps (Some line)) (sym (parted o).opens) (next (as_is at) (subst (λ l. Phrase (drop 1 (parts o)) l) cut.rest_is h.phrase)) in
        record { order = o; says = h.says; spelled = spelled; alone = λ p t. unique p o t spelled }
    by (Err f) h = refused (argument is (subst (λ l. Stops (arguments (form_of v (choice (head rest)))) l f) cut.rest_is h))

pub read_as : {fm gm : Form} {rest : Option (List ℕ)} {c : Command} → fm ≡ gm → (o : Order) → Says c o → form o ≡ fm → Phrase (drop 1 (parts o)) rest → Read gm rest c
read_as e o s f p = record { order = o; says = s; form_is = f ∙ e; phrase = p }

pub stop_as : {fm gm : Form} {rest : Option (List ℕ)} (r : Result Command Fault) (x : Fault) → fm ≡ gm → IsErrAnd r (λ y. y ≡ x) → Stops (arguments fm) rest x → Reads gm rest r
stop_as {fm} {gm} {rest} r x e b h = passed r (λ c. Read gm rest c) (λ f. Stops (arguments gm) rest f) x b (subst (λ m. Stops (arguments m) rest x) e h)
