use Rattle.std.proofs.Common.{◌≡◌, ◌∙◌, List, [], ◌∷◌, ◌++◌, sym, ap, subst}
use Rattle.std.specs.Prelude.{All, map}
use Rattle.std.proofs.lemmas.List.{map-append}
use Rattle.std.proofs.lemmas.List.Elements.{All-append, All-cons, All-nil}
use Rattle.script_lang.specs.declared.transcripts.session.Session.{Session}
use Rattle.script_lang.specs.TranscriptText.{SessionHasNames}
use Rattle.script_lang.specs.TranscriptView.{SessionSeen, session_seen}
use Rattle.tool_tests.proofs.transcripts_written.sessions.Goals as goal

all_more : (P : SessionSeen → Type 0) (sessions more : List Session) (session : Session) → more ≡ sessions ++ session ∷ [] → All P (map session_seen sessions) → P (session_seen session) → All P (map session_seen more)
all_more P sessions more session is all one =
    let seen : map session_seen more ≡ map session_seen sessions ++ session_seen session ∷ [] = ap (map session_seen) is ∙ map-append session_seen sessions (session ∷ []) in
    subst (All P) (sym seen) (All-append P (map session_seen sessions) (session_seen session ∷ []) all (All-cons P (session_seen session) [] one (All-nil P)))

pub loop-which-preserved : goal.loop-which-preserved
loop-which-preserved c =
    all_more (SessionHasNames c.args.names.now) c.loop-which.sessions.items c.push.new.self.items c.in_ok-session.field-0 c.in_ok-push.ensures.items c.loop-which.invariant c.in_ok-session.ensures

pub returns : goal.returns
returns c = subst (All (SessionHasNames c.args.names.now)) (sym c.new.ensures) c.loop-which.invariant
