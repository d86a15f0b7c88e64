-- What the serializer logs of a text is that text, and its JSON is the quoted text.
use Rattle.std.proofs.Common.{◌≡◌, string_bytes, arith}
use Rattle.std.proofs.lemmas.Grind.{common_steps}
use Rattle.json.specs.Print.{quoted}
use Rattle.serde_json.proofs.FreeTexts.{text_of_str}
use Rattle.prefs_text.proofs.quoted.push_quoted.Goals as goal

pub returns : goal.returns
returns c =
    let written = c.in-Ok.ensures.events in
    let json : string_bytes c.in-Ok.json ≡ quoted c.args.text.now = text_of_str c.args.text.now written.0 (string_bytes c.in-Ok.json) written.1 written.2 in
    grind (arith, common_steps, json)
