-- Means of the frame call: what comes out of it, from the parts of a state. What the call gives is the paper's, in the station's Frame.
pub mod Parts
